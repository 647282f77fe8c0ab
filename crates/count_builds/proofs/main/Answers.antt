-- `main` is safe: the card is a part of what was read, and what is printed is a part of its buffer (`printed_fits`). Assumes nothing.
use mathlib.Core.Path.{sym}
use lib.Seq.{length-take-le}
use Rattle.base_text.proofs.PrintedLaws.{printed_fits}
use Rattle.count_builds.proofs.main.Goals as goal

pub slice_bounds-out-end : goal.slice_bounds-out-end
slice_bounds-out-end c = printed_fits c.report-printed.ensures

pub slice_bounds-write-end : goal.slice_bounds-write-end
slice_bounds-write-end c = sym (length-take-le _ _ (printed_fits c.report-printed.ensures))
