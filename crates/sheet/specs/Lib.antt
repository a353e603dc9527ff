-- The definitions of the work sheet.
pub mod State
pub mod Sheet
pub mod ExampleSheet
pub mod ShortSheets
