-- `CountLaws` has laws of how many pass a test, `KeyLaws` of counting entries by key, `SpreadLaws` and
-- `EntryLaws` of putting them into the lists of their keys, `OrderLaws` of sorting by one key after another, `SortLaws` of the sort as the
-- code does it, `PreparedLaws` of the tables. The crates above need only what `Prepared` says.
pub mod CountLaws
pub mod KeyLaws
pub mod SpreadLaws
pub mod EntryLaws
pub mod OrderLaws
pub mod SortLaws
pub mod PreparedLaws
