-- What is read is its text: `FindLaws`, `WordLaws`, `NumberLaws`, `ListedLaws`, `LineLaws`, `LengthLaws`. The lines of a text: `TextLaws`,
-- `LinesLaws`, `FirstLaws`. The tests of a text: `TestLaws`, `ScanLaws`, `SoundLaws`, `MarkLaws`; that it is refused by its first line at fault:
-- `FaultLaws`, `LineFaults`, `FaultWords`, `RefusalNumbers`. For the functions of this crate: `Cursor`, `WordCursor`,
-- `KeepLaws`, `ScanTurn`, `CloseLaws`, `KeptLaws`. `NoShift`: each listed place means the card place one less. `Examples`: worked ones.
pub mod FindLaws
pub mod WordLaws
pub mod NumberLaws
pub mod ListedLaws
pub mod LineLaws
pub mod LengthLaws
pub mod TextLaws
pub mod LinesLaws
pub mod FirstLaws
pub mod TestLaws
pub mod ScanLaws
pub mod SoundLaws
pub mod MarkLaws
pub mod FaultLaws
pub mod LineFaults
pub mod FaultWords
pub mod RefusalNumbers
pub mod Cursor
pub mod WordCursor
pub mod KeepLaws
pub mod ScanTurn
pub mod CloseLaws
pub mod KeptLaws
pub mod NoShift
pub mod Examples
