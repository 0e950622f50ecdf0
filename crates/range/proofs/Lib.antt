-- Laws of loops that test the points of a list, and of points as pairs.
pub mod Chunks
pub mod Passing
pub mod Parts
pub mod Halving
pub mod InOrder
