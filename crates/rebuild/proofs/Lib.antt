-- From what is looked at to what Rebuild promises, and the way back.
pub mod Refusing
pub mod Rebuilding
pub mod WayBack
pub mod Told
