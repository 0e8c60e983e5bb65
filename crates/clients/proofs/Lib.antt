pub mod Reach
pub mod Clients
pub mod Kept
pub mod Places
