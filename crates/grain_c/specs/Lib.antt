-- What the face promises beyond what its calls promise.
pub mod Block
