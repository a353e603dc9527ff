-- Laws of the definitions of specs/, which the proofs of this crate and of those above cite.
pub mod Tests
pub mod BoolLaws
pub mod ByteLaws
pub mod ListLaws
pub mod NameLaws
pub mod ZeroLaws
pub mod DescriptorLaws
pub mod StoreLists
pub mod RegionLaws
