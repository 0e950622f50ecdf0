-- That the test, corner by corner, decides whether they are a corner list.
pub mod Shaping
