-- `Laws` has what this crate's proofs and the crates above cite of an entry, `SlotLaws` of a slot and its bytes, `Allowed` what the places of
-- a sound entry are, `HoldLaws` what entries that hold have, `Determined` that each contract has one outcome, `Edges` the scope's edges of the numbers.
pub mod Laws
pub mod SlotLaws
pub mod Allowed
pub mod HoldLaws
pub mod Determined
pub mod Edges
