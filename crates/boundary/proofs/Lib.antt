-- Laws of the definitions of the exported functions.
pub mod ExportedLaws
pub mod RecordLaws
pub mod ListingLaws
pub mod Values
