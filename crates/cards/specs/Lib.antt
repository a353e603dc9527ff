-- Whole cards after a call, which hold the definitions to document 01.
pub mod Cards
