pub mod Number
pub mod Refusals
pub mod Compact
pub mod Reader
pub mod Theorems
