-- Laws that the functions cite.
--     Leaves                 what each exported function leaves, from the promises of what it calls
--     Theorems, OneOutcome   what the documents cite
pub mod Leaves
pub mod Theorems
pub mod OneOutcome
