pub mod Names
pub mod Locks
pub mod Refusal
pub mod Lends
pub mod Least
