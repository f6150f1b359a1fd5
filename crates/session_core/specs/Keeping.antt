-- What `Core` keeps: sessions over documents in memory, with the journal of what happened.
pub mod Table
pub mod Kept
pub mod Ties
pub mod CoreCalls
