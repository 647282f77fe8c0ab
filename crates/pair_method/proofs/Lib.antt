-- `EnterLaws` has the laws of entering the entries into the list of a card, `LinkLaws` those of making the list of each place, `PlacesLaws`
-- those of the places of each entry, `Built` those of the whole method, `CardLaws` that the list has the entries of the card, and that what
-- is found is the verdict on it, `AnswerLaws` that the answer by it is right, `Determined` what the contract of `pair` determines.
pub mod EnterLaws
pub mod LinkLaws
pub mod PlacesLaws
pub mod Built
pub mod CardLaws
pub mod AnswerLaws
pub mod Determined
