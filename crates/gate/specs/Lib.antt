-- Verdict: what the gate promises. Text: the line as bytes.
pub mod Text
pub mod Verdict
