-- Laws of the scan as the code runs it.
pub mod Popping
pub mod Ways
pub mod Rows
pub mod Climbing
pub mod Rising
