pub mod Calls
pub mod Logs
pub mod Kept
pub mod Runs
