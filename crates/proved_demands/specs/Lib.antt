-- `Demanded` is what the demands speak of: the sequences that fit a card, what an answer means, and two cards of which the second allows more.
-- `Tables` has the twelve tables of 01 on cards, and tables of cards as demand 3 takes them.
pub mod Demanded
pub mod Tables
