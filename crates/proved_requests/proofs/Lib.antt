-- `Neighbours` has the theorems of pair cards whose two places are neighbours, and `NeighbourLaws` is what they cite. `Counted` has those of the
-- number of builds. `Settled` has those of narrow span cards, settled without a budget, and `SettledLaws` and `NumberLaws` are what they cite.
-- `Inhabited` shows that there are such cards. `Examples` is what is computed of the tables that these theorems name.
pub mod Examples
pub mod NeighbourLaws
pub mod Neighbours
pub mod Counted
pub mod NumberLaws
pub mod SettledLaws
pub mod Settled
pub mod Inhabited
