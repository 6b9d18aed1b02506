pub mod Types
pub mod Tables
pub mod Spelling
pub mod HasText
pub mod Grammar
pub mod Judging
pub mod Laws
