-- The definitions of the tests of a descriptor.
pub mod Range
