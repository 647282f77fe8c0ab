-- `Paths`: the completed paths are the builds, and the verdict by them is true.
-- `Meant`: one outcome at most is true.
-- `Crowded`: a narrow card with 8 spans over a place has no build.
pub mod Paths
pub mod Meant
pub mod Crowded
