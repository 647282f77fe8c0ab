-- `Laws` has what this crate's proofs cite, `Inverse` that the table serves both ways, `Determined` that each contract has one outcome.
pub mod Laws
pub mod Inverse
pub mod Determined
