-- What a placement forces: `TrailLaws` has the trail of what is placed, `ExclusionLaws` two entries, `StepLaws` one step after another,
-- `PlaceLaws` the places that a placed entry clears, `UndoLaws` undoing. `Slots` has the laws of going through the list of a place,
-- `Joining` those of a number more, `CommonLaws` those of what can still stand at a place.
pub mod TrailLaws
pub mod ExclusionLaws
pub mod StepLaws
pub mod PlaceLaws
pub mod UndoLaws
pub mod Slots
pub mod Joining
pub mod CommonLaws
