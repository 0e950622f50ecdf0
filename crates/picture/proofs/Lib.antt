-- From what the calls promise to what the report program writes.
pub mod Reporting
pub mod Responding
pub mod Pinned
pub mod Example
