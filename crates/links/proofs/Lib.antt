-- Laws of the chain, which the proofs of the crates above cite.
pub mod SoundLaws
pub mod FlagLaws
pub mod ChainLaws
pub mod LinkedLaws
pub mod StoredLaws
pub mod SharedLaws
pub mod RelinkedLaws
pub mod MemberLaws
pub mod ChangedLaws
