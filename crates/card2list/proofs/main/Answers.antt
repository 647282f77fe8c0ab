-- `main` is safe: what was read is a part of its buffer, and so is what is written on each stream (`printed_fits`). Assumes nothing.
use mathlib.Core.Path.{sym}
use lib.Seq.{length-take-le}
use Rattle.base_text.proofs.PrintedLaws.{printed_fits}
use Rattle.card2list.proofs.main.Goals as goal

pub slice_bounds-out-end : goal.slice_bounds-out-end
slice_bounds-out-end c = printed_fits c.convert-written.ensures.to_output

pub slice_bounds-write-end : goal.slice_bounds-write-end
slice_bounds-write-end c = sym (length-take-le _ _ (printed_fits c.convert-written.ensures.to_output))

pub slice_bounds-err-end : goal.slice_bounds-err-end
slice_bounds-err-end c = printed_fits c.convert-written.ensures.to_errors

pub slice_bounds-say-end : goal.slice_bounds-say-end
slice_bounds-say-end c = sym (length-take-le _ _ (printed_fits c.convert-written.ensures.to_errors))
