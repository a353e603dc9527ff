-- The definitions of the work sheet's lines, in reading order.
pub mod Words
pub mod Grammar
pub mod ReadNumber
