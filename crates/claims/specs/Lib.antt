-- What is claimed of the calls, in reading order.
pub mod Algorithms
pub mod Kinds
pub mod History
pub mod Ledger
pub mod Claims
pub mod Surviving
pub mod Visits
pub mod Spans
pub mod OnePass
pub mod Bench
