-- The law of a format's opening.
pub mod OpeningLaws
