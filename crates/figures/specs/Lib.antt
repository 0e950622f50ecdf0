-- What Figures promises: a quotient rounded once, centroid and solidity, and the answer.
pub mod Quotient
pub mod Figure
pub mod Figures
