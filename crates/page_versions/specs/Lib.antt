-- Versions: the chains of pages, what is kept of them, and how commits are staged and chains cut.
pub mod ChainMap
pub mod Chains
pub mod Kept
pub mod Staging
pub mod Purging
pub mod Inside
pub mod Lends
