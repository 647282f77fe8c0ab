-- `Neighbours` is the span card that a pair card with neighbouring places becomes, `Counted` how many builds a pair card has, `Settled`
-- narrow span cards, settled without a budget. `Tables` has tables beside those of 01.
pub mod Neighbours
pub mod Counted
pub mod Settled
pub mod Tables
