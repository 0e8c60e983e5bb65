pub mod Stretches
pub mod Agrees
pub mod Promises
pub mod Runs
