-- How the computed tables are written.
pub mod Samples
