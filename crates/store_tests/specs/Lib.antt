-- What the tests of the store keep of their values.
pub mod Resident
