pub mod Entries
pub mod Leasts
pub mod Grants
pub mod Sorting
