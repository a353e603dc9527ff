-- The values of spans, computed.
pub mod SpanValues
