-- The definitions of entry finding, in reading order.
pub mod InPlace
pub mod InPlaceRules
pub mod Through
pub mod Found
pub mod Entry
pub mod Naming
pub mod Rules
pub mod Marks
