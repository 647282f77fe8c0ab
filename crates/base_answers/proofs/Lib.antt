-- `Laws` has what every crate above cites of `first` and `in_turn`, `TurnLaws` which of some tests refuses, `Only` by which numbers some refuse.
pub mod Laws
pub mod Only
pub mod TurnLaws
