-- `pair_following::PairCard::exclude_all` meets its contract: three calls in a row. Assumes nothing.
use mathlib.Core.Path.{refl, ◌∙◌}
use Rattle.std.proofs.lemmas.Result.{err_from_is_err_and}
use Rattle.pair_following.proofs.StepLaws.{grown_stops}
use Rattle.pair_following.proofs.PlaceLaws.{all_free}
use Rattle.pair_following.proofs.PairCard.exclude_all.Goals as goal

pub clear_beside-requires : goal.clear_beside-requires
clear_beside-requires c =
    let pre = c.requires in
    let w = c.in_ok-clear.ensures in
    record {
      ready = record { holds = pre.ready.holds; links = pre.ready.links; shape = w.shape };
      placed = (pre.placed.0, rw (w.traced.keeps _ pre.placed.0 pre.placed.1) pre.placed.1);
    }

pub clear_beside-requires-2 : goal.clear_beside-requires-2
clear_beside-requires-2 c =
    let pre = c.requires in
    let w = c.in_ok-clear_beside.ensures in
    let same = c.in_ok-clear.ensures.traced.keeps _ pre.placed.0 pre.placed.1 in
    record {
      ready = record { holds = pre.ready.holds; links = pre.ready.links; shape = w.shape };
      placed = (pre.placed.0, rw (w.traced.keeps _ pre.placed.0 (rw same pre.placed.1) ∙ same) pre.placed.1);
    }

pub returns-in_err-clear_beside : goal.returns-in_err-clear_beside
returns-in_err-clear_beside c =
    let p = err_from_is_err_and c.from_residual-in_err-clear_beside.result c.from_residual-in_err-clear_beside.ensures.1 in
    rw p.1 (grown_stops c.in_ok-clear.ensures c.in_err-clear_beside.ensures refl)

pub returns : goal.returns
returns c =
    let pre = c.requires in
    all_free pre.placed.0 pre.placed.1 c.in_ok-clear.ensures c.in_ok-clear_beside.ensures c.clear_beside-2.ensures
