-- Laws of the definitions of specs/: names in a list of descriptors; soundness by 01's rules; the chain without its walk.
pub mod NamedLaws
pub mod SoundRules
pub mod ChainedLaws
