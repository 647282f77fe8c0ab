-- `LinesLaws`, `VerdictLaws`, `ReportLaws`: the lines of `build` and `settle` as they are put, and their reports. `CountLaws`: the line of
-- `count_builds`. `LongInput`: the first bytes of the input are enough. `NeverRoom`: 12 never comes. `Determined`: each contract has one outcome.
-- `Ends`: each call ends. `Examples`: the lines that 01 shows, and the others.
pub mod LinesLaws
pub mod VerdictLaws
pub mod ReportLaws
pub mod CountLaws
pub mod LongInput
pub mod NeverRoom
pub mod Determined
pub mod Ends
pub mod Examples
