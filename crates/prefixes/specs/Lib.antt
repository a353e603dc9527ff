-- What the tests' library gives.
pub mod Prefix
