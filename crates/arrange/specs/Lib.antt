-- A list arranged in row order, how the sort does it, and how much working space a list asks for.
pub mod Space
pub mod Arranging
pub mod Sorting
