-- The store's checkpoints: slots, heads, what an image opens to, what a plan says, and what each step leaves.
pub mod Slots
pub mod Logs
pub mod Head
pub mod Table
pub mod Opens
pub mod Used
pub mod Planned
pub mod Spent
pub mod Steps
pub mod Checkpoint
