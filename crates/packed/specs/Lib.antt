-- How the code holds a point, points in row order, and a corner list.
pub mod Packed
pub mod Keys
pub mod Corners
