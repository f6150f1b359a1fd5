-- What a document on flat pages is, and what the calls on it answer.
pub mod Pieces
pub mod Reading
pub mod Meaning
pub mod Putting
pub mod Inside
pub mod Lines
pub mod Sink
