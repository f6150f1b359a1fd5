-- Labels: the values of keys, their codes, and the order of both.
pub mod Sign
pub mod Reading
pub mod KeyValue
pub mod LabelOrder
pub mod Neighbours
pub mod LabelShape
pub mod Insertions
