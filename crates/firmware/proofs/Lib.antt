-- `Laws` has what this crate's proofs cite, `Determined` says that each contract has one outcome, `Ends` that none has a `requires` and each call
-- ends, `ZeroMeansGiven` that a struct's number is 0 only where nothing was refused.
pub mod Laws
pub mod Determined
pub mod Ends
pub mod ZeroMeansGiven
