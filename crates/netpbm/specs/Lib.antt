-- What the parts of a bitmap share: white space, and pixels however they are fetched.
pub mod Space
pub mod Raster
pub mod Steps
