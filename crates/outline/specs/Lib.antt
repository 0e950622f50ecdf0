-- When a corner follows those before it.
pub mod Follows
