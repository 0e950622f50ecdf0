-- Laws of packed points, and that sums and products of coordinates fit the machine's numbers.
pub mod Small
pub mod Border
pub mod Tests
pub mod RowOrder
pub mod KeyLaws
pub mod Reading
pub mod KeysOf
pub mod Corners
