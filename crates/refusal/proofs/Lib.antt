-- What holds of the numbers of refusals, and what tells an answer.
pub mod Numbers
pub mod Told
