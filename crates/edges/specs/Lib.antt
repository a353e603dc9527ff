-- Values that hold the definitions to document 01, at the edges of its rules.
pub mod Edges
