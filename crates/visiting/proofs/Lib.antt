-- The law of what a visit gives.
pub mod GivenLaws
