-- What Rebuild answers and promises, and what is looked at before.
pub mod Answer
pub mod Rebuild
pub mod Looking
