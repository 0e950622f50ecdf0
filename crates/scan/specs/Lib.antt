-- What the scan does to a stack of packed points.
pub mod Scanning
