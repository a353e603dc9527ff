-- The definitions of the calls, in reading order.
pub mod Call
pub mod Parts
pub mod Check
pub mod Stores
pub mod Spans
pub mod Ladder
pub mod Effect
pub mod Meaning
pub mod Step
pub mod Listing
