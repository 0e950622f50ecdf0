-- The first place with a fault, as a loop finds it, and the points of a list as pairs.
pub mod First
pub mod Pairs
