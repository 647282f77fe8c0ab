-- `Building` is what build answers and writes. For inner functions alone: `From` is building from entries that hold.
pub mod Building
pub mod From
