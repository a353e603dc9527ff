-- What the code of a visit gives, as the definitions have it.
pub mod Given
