-- The device: three files, the calls on them and their faults, and what a crash may leave.
pub mod Image
pub mod Write
pub mod Device
pub mod Run
pub mod Plan
pub mod Memory
pub mod MemoryLaws
pub mod MemDevice
pub mod Gate
