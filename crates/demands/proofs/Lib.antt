-- Readers and writers held against the page.
--     Paper       from reading and writing as document 01 says, demands 2 and 3 follow for any reader, and what demand 1 says of whole readings
--     Calls       a reader that follows document 01 from call to call reads as it says, in any pieces: one law for any reader
--     Ours        our reader and writer: demand_1, demand_2, demand_3, as_paper
--     Contracts   and they are the code's: from each public function's promise to our reader and writer
--     Fives       why the page has its fourth record: a reader that tells every strict refusal as 5 at 0 meets demands 1 to 3
--     Anew        a reader with no machine, which reads all bytes anew at each call, meets the whole page
--     Wrong       document 01's wrong readers, each refuted by the demand that it names; and some more
pub mod Paper
pub mod Calls
pub mod Ours
pub mod Contracts
pub mod Fives
pub mod Anew
pub mod Wrong
