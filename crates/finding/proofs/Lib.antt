-- The laws that reading an entry in place rests on.
pub mod ReadLaws
