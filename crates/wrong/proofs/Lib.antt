-- Wrong programs, refuted: each is what a program would give, as a function of what the promise speaks of, and at a named load some
-- number of it is not the promised one.
--     Loads     the loads, the states and tables they start from, and what tells two outcomes apart
--     Outs, Wholes   parts of what the public functions give
--     New, Push, End, Read, Strict    one file for each public function of the reader
--     Forged    the range test: states that are reached pass, and fail with one number changed
--     Small     counts and widths
--     Write     the writer: write, written_length, is_fee
--     Exported  the eight exported functions: their arrays
--     Former    a former transaction's records left behind the count
pub mod Loads
pub mod Outs
pub mod Wholes
pub mod New
pub mod Push
pub mod End
pub mod Read
pub mod Strict
pub mod Forged
pub mod Small
pub mod Write
pub mod Exported
pub mod Former
