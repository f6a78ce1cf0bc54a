-- Laws that the functions cite.
--     Decimals  what a number's decimal digits are
--     Spelling  bytes put into a text, one part behind the other
--     Hearing   what was read so far, and the strict form's answer to it
--     Speaking  its line as the bytes that are printed
--     Wrong     wrong lines, refuted
--     Theorems  what the documents cite
pub mod Decimals
pub mod Spelling
pub mod Hearing
pub mod Speaking
pub mod Wrong
pub mod Theorems
