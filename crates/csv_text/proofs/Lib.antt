-- Laws of texts and of writing them.
pub mod Putting
pub mod Numbers
pub mod Signs
pub mod Lines
pub mod Promised
pub mod Pinned
pub mod Sufficing
pub mod Example
