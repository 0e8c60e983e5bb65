pub mod Bookings
pub mod Held
pub mod View
pub mod Serving
pub mod Meant
