-- The laws that the code of a span write rests on.
pub mod ActiveCards
pub mod PieceLaws
pub mod PlanLaws
pub mod PlannedLaws
pub mod BlocksLaws
pub mod WriteSpanLaws
