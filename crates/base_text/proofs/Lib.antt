-- `DecimalLaws`: numbers in decimal. `RefusalLaws`: the line of a refusal. `PuttingLaws`: parts put one after the other. `PrintedLaws`: text at
-- the start of a buffer. `Determined`: what is put has one outcome. `Examples`: texts and numbers, worked out.
pub mod DecimalLaws
pub mod RefusalLaws
pub mod PuttingLaws
pub mod PrintedLaws
pub mod Determined
pub mod Examples
