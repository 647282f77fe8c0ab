-- `Arranged` is an arrangement as the place of each entry, `Chosen` the entries placed so far and what is found of the first build,
-- `Described` the entries of a card by their numbers, and the verdict by the number of free choices, `Settling` what is answered and what
-- it means, `Tables` the pair tables of 01.
pub mod Arranged
pub mod Chosen
pub mod Described
pub mod Settling
pub mod Tables
