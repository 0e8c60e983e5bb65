pub mod Bookings
pub mod OnTime
