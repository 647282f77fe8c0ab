-- The goals of `scan` that the check leaves open; Invariants.antt says how it is met. Assumes nothing.
use mathlib.Core.Path.{refl, sym, ◌∙◌}
use native.Mathlib.Omega.{arith}
use Rattle.std.proofs.lemmas.Result.{err_from_is_err_and}
use Rattle.text_probes.proofs.ScanTurn.{none_kept, scanning_all, turn_no_text, turn_refused, turn_no_zero, turn_rises, turn_on}
use Rattle.text_probes.proofs.scanning.scan.Goals as goal

pub returns-in_default : goal.returns-in_default
returns-in_default c =
    let said = turn_no_text c.loop-at.invariant c.loop-at-test.true c.in_default.ensures.says in
    record { says = said; keeps = none_kept _ _ _ _ said }

pub returns-in_err-s : goal.returns-in_err-s
returns-in_err-s c =
    let said = turn_refused c.loop-at.invariant c.loop-at-test.true c.in-Some.ensures.says (sym c.in_err-s.ensures) in
    let p = err_from_is_err_and c.from_residual.result c.from_residual.ensures.1 in
    rw (p.1, p.2) (record { says = said; keeps = none_kept _ _ _ _ said })

pub keep-requires : goal.keep-requires
keep-requires c =
    let scans = c.loop-at.invariant in
    (scans.ones_long ∙ sym scans.words_long, scans.twos_long ∙ sym scans.words_long, turn_no_zero scans c.loop-at-test.true c.in-Some.ensures.says (sym c.in_ok-s.ensures))

pub loop-at-smaller : goal.loop-at-smaller
loop-at-smaller c =
    omega (arith, turn_rises c.loop-at.invariant c.loop-at-test.true c.in-Some.ensures.says (sym c.in_ok-s.ensures) refl c.in-Some.ensures.within, c.loop-at-test.true)

pub loop-at-preserved : goal.loop-at-preserved
loop-at-preserved c =
    turn_on c.loop-at.invariant c.loop-at-test.true c.in-Some.ensures.says (sym c.in_ok-s.ensures) refl c.in-Some.ensures.within c.keep.ensures

pub returns : goal.returns
returns c = let all = scanning_all c.loop-at.invariant c.loop-at-test.false in record { says = all.0; keeps = all.1 }
