pub mod Numbered
pub mod Tidy
pub mod Ends
