pub mod Bytes
pub mod Servers
pub mod Loops
pub mod Bookings
pub mod Slots
