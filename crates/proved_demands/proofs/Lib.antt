-- `Demands` has the theorems, `Ends` that each call ends, and `Tables` the twelve tables of 01. `Inhabited` shows that there are such cards, one
-- for each table, and `Within` that there are two of which the second allows more, for each verdict; `Examples` is what is computed for both.
-- `MeaningLaws`, `MeantLaws` and `CompareLaws` are what they cite: what is said of a card, read off; that what an answer means and what is
-- promised of it are one; what is said of two cards.
pub mod MeaningLaws
pub mod MeantLaws
pub mod CompareLaws
pub mod Ends
pub mod Demands
pub mod Tables
pub mod Examples
pub mod Inhabited
pub mod Within
