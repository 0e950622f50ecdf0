-- The text of a report and of a refusal, and what `write` and `refused` promise.
pub mod Text
pub mod Written
