-- What the code of a span write goes by.
pub mod Planned
