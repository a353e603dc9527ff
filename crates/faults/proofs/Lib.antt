-- The theorem over the table of values.
pub mod Faults
