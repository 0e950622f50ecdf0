-- Laws of a header and of the loops that read it.
pub mod Tests
pub mod Reading
pub mod Parts
pub mod Sizes
pub mod Headers
