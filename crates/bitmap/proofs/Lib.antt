-- Laws of a bitmap as a whole, and of what `read` promises.
pub mod Pictures
pub mod Pinned
pub mod Accepted
pub mod Example
pub mod Told
