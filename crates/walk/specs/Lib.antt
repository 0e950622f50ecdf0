-- The lattice points of a hull that a list lacks, row by row.
pub mod Walk
