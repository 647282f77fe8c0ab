-- `WritingLaws` has what proofs cite of the answers, `PuttingLaws` of the bytes, `ReadBackLaws` of a card that was written and
-- is read, `AgainLaws` of one that was read and is written. `RoundTrip` has both round trips; `Apart` says that different
-- lists give different cards, `RefusalNumbers` by which numbers lists are refused, `Determined` that the contract has one outcome; `Examples`
-- runs the definitions on the scope's card and edges.
pub mod WritingLaws
pub mod PuttingLaws
pub mod ReadBackLaws
pub mod AgainLaws
pub mod RoundTrip
pub mod Apart
pub mod RefusalNumbers
pub mod Determined
pub mod Examples
