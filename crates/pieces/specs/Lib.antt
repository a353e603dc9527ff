-- The definitions of runs and spans.
pub mod Span
