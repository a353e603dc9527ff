-- The laws of what a listing plans and fills.
pub mod PlanLaws
