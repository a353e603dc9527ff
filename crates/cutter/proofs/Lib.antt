-- Laws of the definitions of specs/, which the proofs of this crate and of those above cite.
pub mod WordLaws
pub mod NumberLaws
pub mod LineLaws
pub mod Examples
