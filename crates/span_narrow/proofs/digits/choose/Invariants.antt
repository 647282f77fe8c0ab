-- `choose` meets its contract: the loop keeps who is chosen of the entries that it has seen (`LookedFrom`). Assumes nothing.
use Prim.Native.Nat.{◌-◌}
use lib.ListN.{length}
use Rattle.span_narrow.proofs.ChooseLaws.{LookedFrom}
use Rattle.span_narrow.proofs.digits.choose.Given as goal

abbrev pub invariant-loop-e : goal.invariant-loop-e
invariant-loop-e l = LookedFrom l.list l.words l.c l.i l.want (length l.list - length l.yielded) l.rest l.chosen
