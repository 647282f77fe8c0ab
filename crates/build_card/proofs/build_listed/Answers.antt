-- `build_listed` meets its contract: 12 where the output is too short, else what is built into its start. Assumes nothing.
use mathlib.Core.Path.{refl, sym, ap, ◌∙◌}
use mathlib.Core.List.{List, ◌++◌}
use Prim.Native.Nat.{ℕ}
use native.Mathlib.Omega.{arith}
use lib.ListN.{drop}
use lib.Seq.{length-take-le}
use Rattle.build_card.specs.From.{short, fits}
use Rattle.card_entries.proofs.HoldLaws.{hold_letters, hold_count, lists_count}
use Rattle.build_card.proofs.FromLaws.{start_whole}
use Rattle.build_card.proofs.build_listed.Goals as goal

pub letters_in-n-requires : goal.letters_in-n-requires
letters_in-n-requires c =
    let letters = hold_letters c.requires.hold in ((hold_count c.requires.hold).1, omega (arith, letters.0), letters.1)

pub returns-then-out-n : goal.returns-then-out-n
returns-then-out-n c = short (rw c.letters_in-n.ensures at c.if-out-n.true) refl refl

pub slice_bounds-build_from-end-2 : goal.slice_bounds-build_from-end-2
slice_bounds-build_from-end-2 c = sym (length-take-le _ _ c.if-out-n.false)

pub build_from-requires : goal.build_from-requires
build_from-requires c =
    let letters = length-take-le c.letters_in-n.result c.args.out.now c.if-out-n.false in
    record { lists_hold = c.requires; out_len = omega (arith, letters, c.letters_in-n.ensures, lists_count c.requires, (hold_letters c.requires.hold).0) }

pub returns : goal.returns
returns c =
    let built = c.build_from.ensures in
    let n = c.letters_in-n.result in
    let whole = start_whole n c.args.out.now c.if-out-n.false built.outcome built.lettered in
    fits (rw c.letters_in-n.ensures at c.if-out-n.false) built.means built.answer
    (ap (λ (l : List ℕ). l ++ drop n c.args.out.now) built.output ∙ whole)
