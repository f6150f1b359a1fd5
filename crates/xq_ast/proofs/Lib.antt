pub mod Codes
pub mod Cuts
pub mod Law
pub mod Numbers
pub mod Tables
pub mod Words
mod FunctionRows
pub mod Names
pub mod Modes
pub mod TokensAlone
