-- `Choosing` has the laws of the words that can stand at a place, `Deciding` those of deciding the words
-- place by place.
pub mod Choosing
pub mod Deciding
