pub mod ClassLists
pub mod Links
