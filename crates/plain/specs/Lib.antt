-- What the pixels of a plain bitmap say, byte by byte.
pub mod Plain
pub mod Steps
