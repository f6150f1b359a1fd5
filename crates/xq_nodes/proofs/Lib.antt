-- Chains of nodes.
pub mod Answering
pub mod Chain
pub mod Copying
pub mod Joins
pub mod MadeAxes
pub mod MadeStepping
pub mod NodeOrder
pub mod Parts
pub mod Places
pub mod Stepping
pub mod StringValues
pub mod Telling
pub mod Unions
