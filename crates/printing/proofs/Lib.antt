-- Laws of the definitions of what a sheet prints.
pub mod DecimalLaws
pub mod TextLaws
