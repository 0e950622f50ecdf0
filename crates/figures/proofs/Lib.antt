-- Quotients that are rounded once, sums, solidity; from what Hull finds to what Figures promises, and what follows from that.
pub mod Rounding
pub mod Summing
pub mod Solidity
pub mod Figuring
pub mod Promised
