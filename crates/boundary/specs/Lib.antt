-- The definitions of the exported functions, in reading order.
pub mod Exported
pub mod RecordBytes
pub mod Values
