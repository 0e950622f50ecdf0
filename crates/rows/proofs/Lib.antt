-- Where a row begins and ends, and that both promises pin the outcome.
pub mod RowLaws
pub mod Pinned
