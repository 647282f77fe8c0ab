-- `pair_method::from_card` meets its contract: its lists have room for as many entries as a card may have, and no entry is placed
-- (proofs/Built.antt). Assumes nothing.
use mathlib.Core.Path.{ap, ◌∙◌}
use Prim.Native.Nat.{ℕ}
use lib.ListN.{replicate}
use Rattle.std.proofs.lemmas.List.{take-replicate}
use Rattle.pair_method.proofs.Built.{part_all, begin}
use Rattle.pair_method.proofs.from_card.Goals as goal

pub decide-requires : goal.decide-requires
decide-requires c =
    let pre = c.requires in
    let all = pre.lengths.0 in
    let few = pre.lengths.1 in
    let none = take-replicate _ _ _ few ∙ ap (λ (n : ℕ). replicate n n) all in
    let start = begin pre.holds_pairs.0 pre.holds_pairs.1 none (part_all _ few all) in
    record { ready = start.0; sure = start.1; lengths = (part_all _ few all, all) }
