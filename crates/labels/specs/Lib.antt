pub mod Labels
pub mod Kinds
pub mod Refusals
pub mod Serials
pub mod Packets
