-- What Row ends and Row promise.
pub mod Row
