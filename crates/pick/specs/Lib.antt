-- Pick's formula; what an edge is worth in it; what solidity with square pixels divides.
pub mod Pick
pub mod Edge
pub mod Solid
