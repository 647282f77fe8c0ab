-- `HashLaws` has what the loops over lists cite.
pub mod HashLaws
