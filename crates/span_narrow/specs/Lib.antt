-- `Settled` is what settling span lists answers, and what a crowded place is. For the inner functions: `Plan` is a card with the lists of its
-- places; `Digits` is sets as numbers and who is first of one; `States` is what a state is and where its cell stands; `Keeping`, `Stepping` and
-- `Sweeping` are what the sweeps forward and back find; `ReadOff` is what is read off.
pub mod Plan
pub mod Digits
pub mod States
pub mod Keeping
pub mod Stepping
pub mod Sweeping
pub mod ReadOff
pub mod Settled
