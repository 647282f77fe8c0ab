-- `TestLaws`: the tests of settling. `SettlingLaws`: the answer and the output, and that one of each at most is right. `CardLaws`: settling
-- a card. `Determined`: the contracts have one outcome, the same from a card and from its lists. `Ends`: each call ends. `NoBudget`:
-- never Unsettled, and placements 0.
pub mod TestLaws
pub mod SettlingLaws
pub mod CardLaws
pub mod Determined
pub mod Ends
pub mod NoBudget
