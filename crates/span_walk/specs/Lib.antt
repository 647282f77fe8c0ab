-- `Walked` is what a walk over lists promises. For the inner functions, `Steps` is what the steps of the code find,
-- `Going` what a call of the recursive walk asks and promises, and `Recalling` what it asks and promises of the memory.
pub mod Steps
pub mod Going
pub mod Recalling
pub mod Walked
