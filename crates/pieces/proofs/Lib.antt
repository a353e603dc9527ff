-- Laws of runs, and of spans.
pub mod RunLaws
pub mod SpanLaws
