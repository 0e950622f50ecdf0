-- Laws of the rows of a picture.
pub mod Rows
