-- What the count reader answers, and the refusals' numbers.
pub mod Count
pub mod Refusal
