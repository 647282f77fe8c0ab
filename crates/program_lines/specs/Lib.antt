-- `Lines` is what the program `build` prints, `SettleLines` what `settle` prints, `CountLine` what `count_builds` prints. For inner functions
-- alone: `ByAnswer` is the lines by an answer, `Rooms` how many bytes the parts have.
pub mod Lines
pub mod SettleLines
pub mod CountLine
pub mod ByAnswer
pub mod Rooms
