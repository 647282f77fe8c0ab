-- `SpanLaws`: what a method needs of a card's lists.
-- `StepLaws`: the parts of a place's list, and the tests of one entry. `PlaceLaws`: the list of a place, by where it begins and ends.
-- `OrderLaws`: the order of the list. `LeftLaws`: the entries that are left.
-- `TriedLaws`: what is tried of a list, of equal words the first.
-- `Candidates`: who is a candidate at a place, by the place's list alone.
pub mod SpanLaws
pub mod TriedLaws
pub mod StepLaws
pub mod PlaceLaws
pub mod OrderLaws
pub mod LeftLaws
pub mod Candidates
