-- `StepLaws`: the slots of a place: what is due, what is opened, and what is tried from a slot on.
-- `RunLaws`, `Turns`: the run at a place, as the code makes it. `DeadLaws`: a run over what completes no build.
-- `Held`: what holds at the head of the walk's loop.
-- `RecallLaws`: what is remembered of a state is true, and what is told of it is what the walk would come to.
-- `WholeLaws`: the whole walk. `Determined`: what it promises has one outcome.
pub mod StepLaws
pub mod RunLaws
pub mod DeadLaws
pub mod Turns
pub mod Held
pub mod RecallLaws
pub mod WholeLaws
pub mod Determined
