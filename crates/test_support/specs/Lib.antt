pub mod Letters
pub mod Runs
