-- `Laws` has what this crate's proofs and the crates above cite of the lists' tests; `Determined` says that each contract has one outcome.
pub mod Laws
pub mod Determined
