-- `WithinLaws` has what the functions that set the card cite.
pub mod WithinLaws
