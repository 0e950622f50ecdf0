-- Laws of pixels, however they are fetched.
pub mod Counting
pub mod Passing
pub mod Writing
pub mod Points
