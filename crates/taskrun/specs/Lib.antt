pub mod Headline
pub mod Summary
pub mod Inputs
pub mod Answers
pub mod ErrorLines
pub mod Arguments
pub mod Rounds
pub mod Courses
