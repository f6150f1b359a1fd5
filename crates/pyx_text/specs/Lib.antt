pub mod Cuts
pub mod Progress
pub mod Reader
pub mod Replacing
pub mod Ways
