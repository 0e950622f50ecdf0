-- The struct of Figures.
pub mod Block
