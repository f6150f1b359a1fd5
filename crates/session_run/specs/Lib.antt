pub mod Calls
pub mod Effects
pub mod Tied
pub mod Called
pub mod Answers
pub mod Sessions
pub mod Outcomes
pub mod Updates
