pub mod Owners
pub mod Tables
pub mod Lines
pub mod Rates
pub mod Frames
