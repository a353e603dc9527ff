-- Values that hold the definitions to document 01, at the edges of the rules on entries.
pub mod Faults
