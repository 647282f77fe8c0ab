-- `Counting` is the number of builds as it is answered. For inner functions alone: `ByKind` is the number of builds of lists that hold.
pub mod Counting
pub mod ByKind
