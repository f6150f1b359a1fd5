-- Node numbers: the forms of their pages, what calls read and write of these, and what the pages mean.
pub mod Forms
pub mod Reading
pub mod Finding
pub mod Writing
pub mod Adding
pub mod Meaning
pub mod Owned
pub mod Inside
pub mod Sparing
