-- The definitions of the chain of descriptors, in reading order.
pub mod Chain
pub mod Chained
pub mod Walk
pub mod Soundness
