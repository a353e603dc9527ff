-- Laws of what a line prints.
pub mod PrintLaws
