-- `TestLaws`: tests that hold. `RowLaws`: lists by their elements. `AtLaws`: a member by its number.
-- `ListLaws`: members of lists, taking one out, rising order, pairing off.
-- `KeepLaws`: those of a list that pass a test. `ReorderedLaws`: lists in another order, and what a map does to them.
-- `PartLaws`: a part of a list, and what a store does to it. `PutLaws`: a part put into a list.
-- `Fold`: a loop that folds or tests a list. `FillingLaws`: two numbers side by side, and a loop that stores each element of a list.
-- `Pigeons`: numbers below n that are sent to different numbers below n reach every number below n. `Skips`: numbers with one left out.
-- `Undone`: maps of the numbers below n that can be undone. `Reindexed`: a list in another order, by the index that each place has its member from.
-- `Listed`: a list by what it has at each place.
pub mod TestLaws
pub mod RowLaws
pub mod AtLaws
pub mod ListLaws
pub mod KeepLaws
pub mod ReorderedLaws
pub mod FillingLaws
pub mod PartLaws
pub mod PutLaws
pub mod Fold
pub mod Pigeons
pub mod Skips
pub mod Undone
pub mod Listed
pub mod Reindexed
