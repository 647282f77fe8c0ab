-- Laws of the memory: `KeyLaws` that equal keys are equal states, `CellLaws` what a cell tells.
pub mod KeyLaws
pub mod CellLaws
