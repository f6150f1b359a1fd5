-- Texts: the slots and pieces of a page, what calls read and write of these, and what the pages mean.
pub mod Slots
pub mod Finding
pub mod Inside
pub mod Putting
pub mod Taking
pub mod Reading
pub mod Meaning
pub mod Keeping
pub mod Sparing
