-- `SoundLaws`: lists that hold. `FromLaws`: building from lists that hold. `CardLaws`: building from a card. `Determined`: the contract has
-- one outcome.
pub mod SoundLaws
pub mod FromLaws
pub mod CardLaws
pub mod Determined
