-- `SureLaws` has the laws of a place with one entry left.
pub mod SureLaws
