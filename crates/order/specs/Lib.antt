-- What Order answers and promises, and what is known of a list before its room is written.
pub mod Answer
pub mod Order
pub mod Found
