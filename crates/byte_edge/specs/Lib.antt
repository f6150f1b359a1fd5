pub mod Edge
pub mod Faults
pub mod Memory
pub mod Took
pub mod Sending
