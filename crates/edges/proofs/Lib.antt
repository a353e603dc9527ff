-- The theorems over the tables of values.
pub mod Edges
