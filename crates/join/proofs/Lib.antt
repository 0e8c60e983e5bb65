pub mod Kept
pub mod Submits
pub mod Fits
pub mod Begins
pub mod Exact
