mod EachDigit
mod Reading
pub mod TwoWays
