pub mod Loads
pub mod MomentLoads
pub mod WritingLoads
