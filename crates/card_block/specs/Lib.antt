-- `Bytes` is for numbers in bytes, `Check` for a block's check, `Block` for what holds and what is fetched, `Sealing` for what is written;
-- `Plain` is for the sums as the code works them out.
pub mod Bytes
pub mod Check
pub mod Block
pub mod Sealing
pub mod Plain
