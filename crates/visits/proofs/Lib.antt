-- The values of a visit, computed.
pub mod VisitValues
