pub mod Spots
pub mod Comes
pub mod ByNumber
