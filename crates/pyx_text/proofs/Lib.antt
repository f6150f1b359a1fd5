pub mod Forms
pub mod Nodes
pub mod Replaced
pub mod Escapes
pub mod LineText
pub mod Tied
pub mod Ways
