-- `Extends`: a closed choice extends to an arrangement wherever there is one, and an arrangement fills every place.
-- `Minority`: the odd one out of three arrangements, at each place, is an arrangement.
-- `Halves`: where two words can be at a place, as many builds have the one as have the other.
-- `Upto`: one place more of the first build, and how many builds there are.
-- `Places`: the word at a place, by the entries that can stand there.
-- `Ordered`: an arrangement as the order of the entries, and as the place of each entry: the one gives the other.
-- `Told`: what the method finds is the verdict on the card.
-- `Meant`: what an answer means determines it; two cards, the second of which allows more.
-- `Tables`: P1 to P7, from the definitions through one statement over the list.
pub mod Extends
pub mod Minority
pub mod Halves
pub mod Upto
pub mod Places
pub mod Ordered
pub mod Told
pub mod Meant
pub mod Tables
