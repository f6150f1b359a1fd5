pub mod NodeLines
pub mod NodeLists
pub mod Replies
