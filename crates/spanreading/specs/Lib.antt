-- What the code of a span read goes by.
pub mod Fetched
