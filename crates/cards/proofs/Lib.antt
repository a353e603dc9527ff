-- The theorems over whole cards.
pub mod Cards
