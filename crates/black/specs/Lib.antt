-- What is found of a pixel's row.
pub mod Row
