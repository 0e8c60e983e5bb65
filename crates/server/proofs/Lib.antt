pub mod Meanings
pub mod Props
pub mod Rows
pub mod Turned
pub mod Answers
pub mod Grants
pub mod Rounded
