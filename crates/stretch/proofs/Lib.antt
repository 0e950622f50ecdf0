-- Laws of stretches.
pub mod Counting
pub mod Climbing
pub mod Rowing
pub mod Sides
pub mod Following
pub mod Upwards
