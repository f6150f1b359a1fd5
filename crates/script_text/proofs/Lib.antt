mod Rows
pub mod EventText
pub mod ScriptLines
pub mod OrderNumbers
pub mod Asides
pub mod Spelled
pub mod OneLine
pub mod Quoted
pub mod EventRows
pub mod TextTells
pub mod SpelledAgain
pub mod Few
