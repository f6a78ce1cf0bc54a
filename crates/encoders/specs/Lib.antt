-- The writer's definitions: what its contracts cite.
--     Answers   what the public functions promise, as 01 has it
--     Sinks     what a sink makes of bytes
--     Stores    what the output makes of a byte
--     Needs     what private functions need of each other: pass 1
--     Puts      and pass 2
pub mod Answers
pub mod Sinks
pub mod Stores
pub mod Needs
pub mod Puts
