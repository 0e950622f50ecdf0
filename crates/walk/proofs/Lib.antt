-- Laws of a walk through the rows of a hull: one row's points and gaps, the rows one after the other.
pub mod Peaking
pub mod Lending
pub mod Rows
pub mod Gaps
pub mod Filling
pub mod Walking
pub mod Along
pub mod Loops
