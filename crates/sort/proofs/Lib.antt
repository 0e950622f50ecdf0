-- The theory of the sort. `Sorted` and `Repeats` have what callers cite; the others serve the proofs of the crate's own functions.
pub mod Rising
pub mod Sorted
pub mod Repeats
pub mod Insertion
pub mod Buckets
pub mod Counters
pub mod Passes
