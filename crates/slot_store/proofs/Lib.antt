-- Lemmas of checkpoints: slots of a file, steps on images, what opens, and the parts of a checkpoint.
pub mod Slots
pub mod Steps
pub mod Opening
pub mod Preparing
pub mod Writing
pub mod Gates
pub mod Giving
pub mod Fitting
pub mod Naming
pub mod Places
pub mod Changing
pub mod Fits
