-- Lists of calls: 01's worked example, a second list, and the example on a card of revision 1.
pub mod Example
pub mod SecondExample
pub mod SurvivingExample
