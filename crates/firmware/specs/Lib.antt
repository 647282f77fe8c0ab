-- `Flat` is each answer as a struct of numbers, `Building` that of build, `Counting` that of the number of builds.
pub mod Flat
pub mod Building
pub mod Counting
