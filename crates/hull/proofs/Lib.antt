-- From what is found to what Hull promises, and what its rooms hold.
pub mod Hulling
pub mod Standing
pub mod Told
