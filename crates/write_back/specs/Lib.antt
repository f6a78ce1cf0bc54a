pub mod Back
pub mod Beside
pub mod Held
