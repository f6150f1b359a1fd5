-- Lemmas of node numbers: what a written page leaves of the table, and what each call does to the meaning.
pub mod NewKinds
pub mod Answering
pub mod Steps
pub mod Entries
pub mod Meanings
pub mod Findings
pub mod Writings
pub mod Changing
pub mod Ending
pub mod NewPages
pub mod Children
pub mod Reaching
pub mod Giving
pub mod OwnPages
pub mod Frames
