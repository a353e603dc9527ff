-- How the computed tables are proved.
pub mod FastCheck
pub mod AsSaid
