-- Laws of what is looked for among the missing points.
pub mod Straying
pub mod Chunked
pub mod Going
pub mod Known
pub mod Misplacing
