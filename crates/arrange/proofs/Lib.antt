-- Laws of the loops of this crate, and what sorting tells of the points.
pub mod Marking
pub mod Filling
pub mod Differing
pub mod Sorting
pub mod Rising
