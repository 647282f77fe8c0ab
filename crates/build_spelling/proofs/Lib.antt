-- `SpellingLaws`: each letter of a sequence by its place. `Determined`: the contract has one outcome.
pub mod SpellingLaws
pub mod Determined
