-- The demands, to be read beside document 00; and which reader and writer are ours.
--     Demands   the page: what a reader and a writer are, and what is demanded of them, sentence by sentence
--     Ours      our reader and writer, from the definitions that the contracts cite
pub mod Demands
pub mod Ours
