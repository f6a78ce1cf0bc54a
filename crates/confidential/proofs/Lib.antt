pub mod Widths
pub mod Theorems
