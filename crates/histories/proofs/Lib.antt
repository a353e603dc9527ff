-- What their calls answer, and what demand 3 says of them.
pub mod Answered
pub mod Example
pub mod NotEmpty
pub mod SurvivingExample
