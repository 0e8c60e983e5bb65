pub mod Rounds
pub mod Slots
pub mod Reservations
