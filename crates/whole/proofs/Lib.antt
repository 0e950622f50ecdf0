-- The whole numbers ℤ of lib.IntN, from the ring laws up. Users open Whole, which has the guide and passes on what they need.
pub mod Laws
pub mod Polynomial
pub mod Quote
pub mod Order
pub mod Linear
pub mod Absolute
pub mod Differences
pub mod Natural
pub mod Whole
