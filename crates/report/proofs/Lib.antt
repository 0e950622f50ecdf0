-- From what Hull's find and the walk tell to what Verdict and Report promise.
pub mod Missing
pub mod Reporting
pub mod Pinned
pub mod Told
