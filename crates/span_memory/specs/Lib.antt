-- `Tally` is how far a walk has come, and `Memory` what is remembered of the states that it has finished: for the contracts of inner functions
-- alone.
pub mod Tally
pub mod Memory
