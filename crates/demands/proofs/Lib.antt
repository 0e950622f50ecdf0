-- The three demands over the promises of the calls, one file each; that every promise pins its outcome; the five impostors.
pub mod Passing
pub mod Refused
pub mod Rooms
pub mod Published
pub mod NoTwoGrains
pub mod EveryCall
pub mod Impostors
