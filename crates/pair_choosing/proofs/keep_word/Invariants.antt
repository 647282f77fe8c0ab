-- `pair_choosing::keep_word` meets its contract. The loop goes through the list of t (`Listing`), with `Dropping` of proofs/Choosing.antt.
-- Assumes nothing.
use Rattle.pair_following.specs.Following.{pairs_in, progress_in}
use Rattle.pair_choosing.specs.Choosing.{pick_of}
use Rattle.pair_following.proofs.Slots.{Listing}
use Rattle.pair_choosing.proofs.Choosing.{Dropping}
use Rattle.pair_choosing.proofs.keep_word.Given as goal

abbrev pub invariant-loop-k : goal.invariant-loop-k
invariant-loop-k l =
    Listing l.pairs.card.now l.t l.k × Dropping (pairs_in l.pairs) (progress_in l.initial.placed)
    (pick_of l.t l.w) l.k (progress_in l.placed)

abbrev pub decreases-loop-k : goal.decreases-loop-k
decreases-loop-k l = l.k
