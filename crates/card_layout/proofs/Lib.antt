-- `Laws` has what this crate's proofs and the crates above cite of the layout, `ZerosLaws` of zeros, `CardLaws` of the bytes of a card by what
-- it says, `LaidLaws` of a card that is laid out as it must be, `AgainLaws` of what such a card says: it is the card of that;
-- `Determined` says that each contract has one outcome.
pub mod Laws
pub mod ZerosLaws
pub mod CardLaws
pub mod LaidLaws
pub mod AgainLaws
pub mod Determined
