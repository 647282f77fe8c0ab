-- `Settling` is what giving every entry a place comes to.
pub mod Settling
