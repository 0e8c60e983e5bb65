pub mod Bookings
pub mod Readings
pub mod Traces
