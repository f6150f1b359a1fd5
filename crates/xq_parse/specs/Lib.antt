pub mod Answers
pub mod Reads
pub mod Spellings
pub mod Pieces
pub mod Passes
pub mod Operands
