-- `PutLaws`, `LoopLaws`, `ExportLaws`: the laws of this crate's functions. `LinesBack`: the text of fine lines has just these lines.
-- `EntryBack`, `AdmittedLines`, `ListBack`: the line of an entry of an admitted card is fine, and stands for it. `RoundTrip`: what is exported
-- imports to the same card. `SpelledOut`, `ImportedBack`: what comes back of an imported list. `ExportRoom`: room for every list.
-- `Refusals`, `RefusalNumbers`: what is refused. `Determined`: the contract determines the outcome, and `Ends`: each call meets it. `Examples`:
-- worked lists.
pub mod PutLaws
pub mod LoopLaws
pub mod LinesBack
pub mod EntryBack
pub mod AdmittedLines
pub mod ExportLaws
pub mod ListBack
pub mod RoundTrip
pub mod SpelledOut
pub mod ExportRoom
pub mod ImportedBack
pub mod Refusals
pub mod RefusalNumbers
pub mod Determined
pub mod Ends
pub mod Examples
