-- Lemmas of versions: how chains are cut and staged, and what `Versions` keeps true of its fields.
pub mod Chaining
pub mod Needing
pub mod Paging
pub mod Stages
pub mod Sounding
pub mod Callers
