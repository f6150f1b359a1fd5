-- What evaluation says of the nodes of a `Nav`.
pub mod Walks
pub mod Copies
pub mod Ends
pub mod Answers
pub mod Joins
pub mod Uniting
pub mod Steps
pub mod MadeSteps
