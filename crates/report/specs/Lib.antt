-- What Verdict and Report promise, and their accepted answers.
pub mod Report
pub mod Answer
