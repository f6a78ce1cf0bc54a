-- Document 01 as definitions, in its words and order. What a reader must believe stands here and nowhere else.
--     Number        numbers in bytes
--     Layout        what a layout is, and its reading
--     Transaction   the layout: every field, refusals 2 to 8, every number that enters a table
--     Outcome       what the caller sees: answer, bytes taken, tables; finishing (1), reading at once, the strict form (9); bearing bytes
--     Contents      a transaction as what it holds: its bytes, and what is allowed
--     Records       its head numbers and records
--     Refusals      what the bytes taken show where a reading refuses
--     Fields        what is formed: allowed but for the size limit and 8; where each field starts and ends, and refusal 2 by them
--     Sites         where counts, lengths, prefixes and issuances start, and the bytes of a fault there
--     Moments       when each number enters, and the tables so far
--     Beginnings    what the caller sees of any bytes: first bytes of a transaction, those and a fault, a flag above 1
--     Outline       what it holds, with each part that doesn't bear replaced by its length, or blotted out
--     Writing       from head numbers, tables and source to bytes, or a refusal; the fee question
--     Shows         which transaction head numbers and tables over a source show
--     Unwritten     what they show where writing refuses
pub mod Number
pub mod Layout
pub mod Transaction
pub mod Outcome
pub mod Contents
pub mod Records
pub mod Refusals
pub mod Fields
pub mod Sites
pub mod Moments
pub mod Beginnings
pub mod Outline
pub mod Writing
pub mod Shows
pub mod Unwritten
