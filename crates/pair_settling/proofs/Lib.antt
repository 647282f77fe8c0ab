-- `Settled` has the laws of giving every entry a place.
pub mod Settled
