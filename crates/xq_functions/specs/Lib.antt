pub mod Focuses
pub mod FunctionNames
pub mod Gives
pub mod NodeItems
pub mod Operands
pub mod Rooms
pub mod Says
pub mod TextTests
