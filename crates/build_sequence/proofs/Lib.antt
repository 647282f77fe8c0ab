-- The laws of this crate's definitions, cited by the crates above.
-- `OrderLaws`: the alphabetical order.
-- `LetterLaws`: the letters of a word, and that `overlaps` is the scope's sentence.
-- `SpellingLaws`: the sequence that a list of words spells, its length, its words and its order.
-- `BuildLaws`: the length of a build, and its words.
-- `MatchedLaws`: a build is a sequence whose words can be matched one to one with the entries.
-- `PlaceByPlace`: entries that can stand in their places, said of each place.
-- `VerdictLaws`: true verdicts: there is one, and where more sequences fit it is no later.
-- `WiderLaws`: a build of a card is one of each card that allows more.
-- `ManyLaws`: how many sequences fit: one number, what a map does to it, and what the verdict has to do with it.
-- `Enumerator`: all arrangements of a list of entries, by computation.
-- `VerdictOf`: the verdict on a list of sequences, and on all arrangements, by computation.
-- `ManyOf`: how many sequences a list has, and how many builds entries have, by computation.
-- `Tables`: the tables of 01 from the definitions, through one statement over the list.
pub mod OrderLaws
pub mod LetterLaws
pub mod SpellingLaws
pub mod BuildLaws
pub mod MatchedLaws
pub mod PlaceByPlace
pub mod VerdictLaws
pub mod WiderLaws
pub mod ManyLaws
pub mod Enumerator
pub mod VerdictOf
pub mod ManyOf
pub mod Tables
