-- `pair_choosing::choose` meets its contract: a law of proofs/Choosing.antt for each outcome. Assumes nothing.
use mathlib.Core.Path.{◌≡◌, refl, ap}
use Prim.Native.Nat.{suc}
use native.Mathlib.Omega.{arith}
use Rattle.std.proofs.lemmas.Result.{err_from_is_err_and}
use Rattle.pair_following.specs.Common.{one_in, many_in}
use Rattle.pair_following.proofs.ExclusionLaws.{inside_of}
use Rattle.pair_choosing.proofs.Choosing.{choose_none, choose_one, choose_weighed_none, choose_kept, choose_clash}
use Rattle.pair_choosing.proofs.choose.Goals as goal
use Rattle.pair_choosing.proofs.choose.Goals.{in-One-weigh, in-More-weigh}

pub returns-in-None : goal.returns-in-None
returns-in-None c =
    let pre = c.requires in
    choose_none (inside_of pre.ready.holds) pre.closed pre.ready.shape pre.t_bound (c.found_at.ensures c.args.pairs.now.mask)
    (ap (λ r. many_in r) c.in-None.is)

pub returns-in-One : goal.returns-in-One
returns-in-One c =
    let pre = c.requires in
    choose_one (inside_of pre.ready.holds) pre.closed pre.ready.shape pre.t_bound (c.in-One.ensures c.args.pairs.now.mask) refl

pub returns-in-None-weigh : goal.returns-in-None-weigh
returns-in-None-weigh c =
    let pre = c.requires in
    choose_weighed_none (inside_of pre.ready.holds) pre.closed pre.ready.shape pre.t_bound c.weigh.ensures
    (ap (λ r. many_in r) c.in-None-weigh.is)

pub returns-in_err-keep_word : goal.returns-in_err-keep_word
returns-in_err-keep_word c =
    let pre = c.requires in
    let said : (one_in c.weigh.result ≡ c.match-weigh.least.0) × (many_in c.weigh.result ≡ suc c.match-weigh.least.1) =
    elim c.match-weigh.branch [
      | in-One-weigh w ↦ rw (w.in-One-weigh.is, w.least-is) (refl, refl)
      | in-More-weigh w ↦ rw (w.in-More-weigh.is, w.least-is) (refl, refl)
    ] in
    let p = err_from_is_err_and c.from_residual.result c.from_residual.ensures.1 in
    rw p.1
    (choose_clash (inside_of pre.ready.holds) pre.closed pre.ready.shape pre.t_bound (rw (said.0, said.1) at c.weigh.ensures)
    c.in_err-keep_word.ensures)

pub returns : goal.returns
returns c =
    let pre = c.requires in
    let said : (one_in c.weigh.result ≡ c.match-weigh.least.0) × (many_in c.weigh.result ≡ suc c.match-weigh.least.1) =
    elim c.match-weigh.branch [
      | in-One-weigh w ↦ rw (w.in-One-weigh.is, w.least-is) (refl, refl)
      | in-More-weigh w ↦ rw (w.in-More-weigh.is, w.least-is) (refl, refl)
    ] in
    choose_kept (inside_of pre.ready.holds) pre.closed pre.ready.shape pre.t_bound (rw (said.0, said.1) at c.weigh.ensures)
    c.in_ok-keep_word.ensures

pub overflow_cast-word : goal.overflow_cast-word
overflow_cast-word c =
    let word = (c.in-One.ensures c.args.pairs.now.mask).has (omega arith) in
    record { fits = rw word.3 at (c.requires.ready.holds.words word.0 word.1) }
