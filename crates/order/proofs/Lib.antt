-- Laws of the loop that writes a room, and from what is found to what Order promises.
pub mod Writing
pub mod Finding
pub mod Ordering
pub mod Told
