-- The columns of a row that lie in a hull, and the rows one after the other.
pub mod Stretch
pub mod Corners
pub mod Ahead
