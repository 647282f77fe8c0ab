-- `Feasible`: what the walk can reach, and the exchange of two entries.
-- `Tried`: what the walk tries at a place.
-- `WalkLaws`: the walk, one place after the other.
-- `Reached`: it reaches the feasible lists of words and no others, in alphabetical order.
-- `Builds`: the builds that it completes are the builds of the card, each once.
-- `Chains`: builds compare as the sequences that they spell.
-- `Paths`: the completed paths spell exactly the builds, each once, in alphabetical order.
-- `Meant`: what the walk comes to means what it says, and nothing else does.
-- `Compare`: two cards, the second of which allows more.
-- `Order`, `Indices`: the same walk over indices, marks and a sorted list for each place.
-- `Runs`: a run under a budget comes to what the definition says.
-- `Tables`: S1 to S5, from the definitions through one statement over the list.
-- `Promises`: what is promised of the walk, for a reader.
pub mod Feasible
pub mod Tried
pub mod WalkLaws
pub mod Reached
pub mod Builds
pub mod Chains
pub mod Paths
pub mod Meant
pub mod Compare
pub mod Order
pub mod Indices
pub mod Runs
pub mod Tables
pub mod Promises
