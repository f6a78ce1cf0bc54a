-- Theorems: why 4,000,001 bytes of an input are enough.
pub mod Theorems
