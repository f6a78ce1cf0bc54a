-- Laws of what `command` promises.
pub mod Counting
