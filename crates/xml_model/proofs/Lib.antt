pub mod Alike
pub mod AlikeParts
pub mod Bounded
pub mod Computing
pub mod Depths
pub mod Building
pub mod Chains
pub mod Entries
pub mod Escapes
pub mod Formed
pub mod Forests
pub mod Framing
pub mod CallFrame
mod FunctionRows
pub mod Known
pub mod Laying
pub mod Lines
pub mod Needed
pub mod Nodes
pub mod ReadAgain
pub mod ReadIsValid
pub mod ReadIsSpelled
pub mod SpelledIsRead
mod MeaningRows
mod NavRows
pub mod NodeCases
mod PathRows
pub mod Numbered
pub mod Numbers
pub mod Reached
pub mod RowCalls
mod Rows
pub mod Standing
pub mod TextAgain
pub mod TextLines
pub mod PlaceOrder
pub mod Placing
pub mod QueryForms
pub mod QueryFrame
pub mod QueryNeeds
pub mod Sorting
pub mod TargetNames
pub mod UpdateFrame
pub mod UpdateNeeds
pub mod UpdateCodes
pub mod Rebuilding
pub mod TreeNumbers
pub mod TreeCalls
pub mod TreesMade
pub mod Turns
mod TupleRows
pub mod Validity
pub mod WellFormed
pub mod Contents
pub mod QueryCodes
pub mod Keeping
pub mod QueryTrees
pub mod PlaceTotal
pub mod RebuildValid
pub mod UpdateComputing
mod UpdateRows
mod LimitRows
