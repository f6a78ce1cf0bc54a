-- Laws that the functions cite.
--     Chunks                          rows of a table
--     Judging, Widths                 pass 1: what is refused, and the length
--     Chunks                          a table's first rows are its records
--     Taking, Storing                 what a sink took; what the output keeps of it
--     Putting, Rows, Ready, Whole     pass 2: what is put
--     Writes                          what `write` does with pass 1's answer
--     Refusals                        the code's answers and 01's determine each other
--     Theorems, OneOutcome            what the documents cite
pub mod Chunks
pub mod Judging
pub mod Widths
pub mod Taking
pub mod Storing
pub mod Putting
pub mod Rows
pub mod Ready
pub mod Whole
pub mod Writes
pub mod Refusals
pub mod Theorems
pub mod OneOutcome
