-- Laws of plain pixels and of the loops that read them.
pub mod Plain
pub mod Tallies
pub mod Outcome
