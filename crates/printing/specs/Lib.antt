-- The definition of what a sheet prints.
pub mod Text
