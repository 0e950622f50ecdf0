-- That Pick's formula counts: from counting sets of points over segments, edges and triangles to the hull of a corner list;
-- and that solidity with square pixels is at most 1.
pub mod Number
pub mod Rectangle
pub mod Divisor
pub mod Segment
pub mod Edge
pub mod EdgeRows
pub mod Level
pub mod LowTriangle
pub mod HighestLast
pub mod HighestSecond
pub mod LevelTop
pub mod Triangle
pub mod Fan
pub mod Extreme
pub mod Extent
pub mod UprightBorder
pub mod Filled
pub mod Pick
pub mod Solid
pub mod Moved
pub mod Sums
