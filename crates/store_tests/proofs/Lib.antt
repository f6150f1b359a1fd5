-- Lemmas of the tests of the store.
pub mod Resident
