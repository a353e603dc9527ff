-- The laws of the tests of a name.
pub mod TestLaws
