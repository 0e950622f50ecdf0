-- What the header of a bitmap says, byte by byte.
pub mod Bytes
pub mod Header
pub mod Steps
