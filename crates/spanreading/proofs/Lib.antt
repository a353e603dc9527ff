-- The laws that the code of a span read rests on.
pub mod PlacedLaws
pub mod GroupLaws
pub mod FillLaws
pub mod FetchLaws
pub mod ReadSpanLaws
