-- `Writing` is what the writer answers, and what it writes; `GivesBack` is what a card that was written gives back.
pub mod Writing
pub mod GivesBack
