-- The log: a record's bytes, how it is read on a store, and how it is appended; and what three files open to.
pub mod Record
pub mod Body
pub mod Append
pub mod Names
pub mod Store
pub mod Reading
pub mod Gives
pub mod Scan
pub mod Taken
pub mod Head
pub mod HeadBytes
pub mod Candidates
pub mod HeadAndRecords
pub mod Opened
pub mod Opens
