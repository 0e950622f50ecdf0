-- What Hull answers and promises, and what comes of a list where the missing points are limited.
pub mod Answer
pub mod Hull
pub mod Within
