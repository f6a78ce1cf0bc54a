-- Laws that the functions cite.
--     Walking   bytes held beside those of the source
--     Backing   what reading strictly and writing back makes of the same bytes
--     Wrong     wrong comparisons, refuted
pub mod Walking
pub mod Backing
pub mod Wrong
