-- The lock: turns at the value, what passes know, and what the list of events tells of them.
pub mod Holding
pub mod Lending
pub mod Passes
pub mod Story
pub mod Turns
pub mod Views
pub mod Crew
