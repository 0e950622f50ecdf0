-- The forms in which the three demands are stated of a call's outcome.
pub mod Demands
