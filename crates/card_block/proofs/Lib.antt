-- `Laws` has what this crate's proofs and the crates above cite of fetching, `ByteLaws` of numbers in bytes and of writing them, `SealingLaws`
-- of sealed blocks, `PlainLaws` of the sums as the code works them out; `Determined` says that each contract has one outcome, `Vectors` has the
-- scope's worked examples.
pub mod Laws
pub mod ByteLaws
pub mod SealingLaws
pub mod PlainLaws
pub mod Determined
pub mod Vectors
