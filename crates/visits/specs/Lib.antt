-- Values of a visit.
pub mod VisitValues
