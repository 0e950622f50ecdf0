-- What the contracts of the sort cite: lists that rise; words, and what it is to sort them; digits, and what a pass over one digit does.
pub mod Rising
pub mod Words
pub mod Digits
