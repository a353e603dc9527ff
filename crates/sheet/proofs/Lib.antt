-- Laws of the work sheet.
pub mod RunningSheet
pub mod ExampleSheet
pub mod ShortSheets
pub mod SheetLaws
pub mod TurnLaws
