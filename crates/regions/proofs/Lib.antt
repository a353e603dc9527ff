-- The law of a region's opening.
pub mod OpenedLaws
