-- `CountingLaws`: the number of builds, the refusals, and that one answer at most is right. `CardLaws`: counting from a card.
-- `Determined`: the contracts have one outcome, the same from a card and from its lists. `Ends`: each call ends.
pub mod CountingLaws
pub mod CardLaws
pub mod Determined
pub mod Ends
