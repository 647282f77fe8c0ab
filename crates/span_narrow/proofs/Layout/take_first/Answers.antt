-- `take_first` meets its contract: who is chosen of the cell is the first that leads on (`taken_took`). Assumes nothing.
use native.Mathlib.Omega.{arith}
use Rattle.span_narrow.proofs.PlaceLaws.{tried_here}
use Rattle.span_narrow.proofs.ReadLaws.{taken_some, taken_took}
use Rattle.span_narrow.proofs.Layout.take_first.Goals as goal

pub unwrap-first-requires : goal.unwrap-first-requires
unwrap-first-requires c = taken_some c.requires c.choose_at.ensures

pub bounds-marks-first : goal.bounds-marks-first
bounds-marks-first c =
    let took = taken_took c.requires c.choose_at.ensures c.unwrap-first.ensures in
    let low = (tried_here c.requires.planned c.requires.sides c.requires.inside _ took.tried).0 in
    omega (arith, low, c.requires.sides.marks_all)

pub returns : goal.returns
returns c = taken_took c.requires c.choose_at.ensures c.unwrap-first.ensures
