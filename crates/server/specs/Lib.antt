pub mod Refusals
pub mod Meaning
pub mod Calls
pub mod Laws
pub mod Order
pub mod Machine
pub mod Meant
