-- Values of spans.
pub mod SpanValues
