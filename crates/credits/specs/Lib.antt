pub mod Shares
pub mod Balanced
pub mod States
pub mod Balancing
pub mod Fitting
pub mod Numbers
pub mod Places
