-- The reader's definitions: what its contracts cite.
--     Stages    the stages' names
--     Machine   the state machine, as pure functions on the state
--     Range     the range test of refusal 11
--     Feeding   the promises of the public functions
--     Needs     what private functions need of each other
pub mod Stages
pub mod Machine
pub mod Range
pub mod Feeding
pub mod Needs
