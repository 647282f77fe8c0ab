-- `PairMethod` is what the method promises, `CardList` the list that it makes of a card, `Built` what it finds over the
-- entries by number.
pub mod Built
pub mod PairMethod
pub mod CardList
