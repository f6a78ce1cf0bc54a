-- What the exported functions promise.
--     Numbers   states, answers and heads as arrays of numbers; one definition for each exported function
pub mod Numbers
