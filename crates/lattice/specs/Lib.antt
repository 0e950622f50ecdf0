-- What document 01 defines, word by word: points and row order; the hull, corners and missing points; the refusals; the lettered grains.
pub mod Point
pub mod Hull
pub mod Refusal
pub mod Room
pub mod Grains
