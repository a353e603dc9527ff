-- Laws of the definitions of specs/, which the proofs of this crate and of those above cite.
pub mod InPlaceRules
pub mod PlaceLaws
pub mod RegionLaws
pub mod OwnerLaws
pub mod EntryLaws
pub mod BlankLaws
pub mod SetLaws
pub mod PutLaws
pub mod MarkLaws
pub mod CheckLaws
pub mod OpeningLaws
pub mod TableLaws
pub mod LocalLaws
pub mod FoundLaws
pub mod ExtendedLaws
pub mod RulesLaws
