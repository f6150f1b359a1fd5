pub mod JournalRead
pub mod JournalRows
pub mod JournalSteps
pub mod JournalText
pub mod Pieces
pub mod ScriptEnds
pub mod Scripts
pub mod Spelling
