pub mod Walks
pub mod Matched
pub mod Dashes
pub mod Sizes
