-- What a bitmap says as a whole, and what `read` promises of it.
pub mod Picture
