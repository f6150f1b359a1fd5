-- Lemmas of labels: digits and fractions, codes and their order, and keys beside others.
pub mod ByteOrder
pub mod DigitLemmas
pub mod CodeOrder
pub mod FractionLemmas
pub mod SignLemmas
pub mod NeighbourLemmas
pub mod CodeBytes
pub mod LabelLemmas
pub mod InsertionLemmas
pub mod ReadingLemmas
