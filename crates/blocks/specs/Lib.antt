-- The definitions of the lowest layer, in reading order.
pub mod Pick
pub mod Bytes
pub mod Name
pub mod Descriptor
