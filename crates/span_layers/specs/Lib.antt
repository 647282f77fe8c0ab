-- `Narrow` is narrow spans, and how many spans hold a place; `Settling` what an answer on a narrow card means. For proofs and inner functions
-- alone: `Completed` is what the walk completes from a state.
pub mod Narrow
pub mod Settling
pub mod Completed
