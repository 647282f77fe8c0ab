-- `DigitLaws`, `ChooseLaws`, `SpreadLaws`, `MarkLaws`: sets of a list's entries as numbers. `BackLaws`: a list from its end.
-- `TriedLaws`, `TrialLaws`: who is tried at a place, and the digits told of them. `PlaceLaws`: what is completed from a state at a place.
-- `PlanLaws`: where the lists of the places tell that a span begins. `StateLaws`, `SideLaws`: the cells of states, and the marks around a place.
-- `FollowLaws`, `ReachLaws`: the sweep forward. `SweepLaws`: the sweep back. `ReadLaws`: reading off. `SettleLaws`, `Determined`: the whole.
pub mod PlanLaws
pub mod DigitLaws
pub mod BackLaws
pub mod ChooseLaws
pub mod TriedLaws
pub mod PlaceLaws
pub mod SpreadLaws
pub mod MarkLaws
pub mod StateLaws
pub mod TrialLaws
pub mod SideLaws
pub mod SweepLaws
pub mod FollowLaws
pub mod ReachLaws
pub mod ReadLaws
pub mod SettleLaws
pub mod Determined
