-- `dues` meets its contract: std's count of those that pass is the count of the dues, and each entry of the list is there. Assumes nothing.
use mathlib.Core.Path.{◌≡◌, refl, ◌∙◌}
use mathlib.Core.List.{List}
use Prim.Native.Nat.{ℕ, ◌<◌}
use native.Mathlib.Omega.{arith}
use lib.ListN.{length, get_or}
use borrow.Author.Rules.{rules}
use Rattle.std.proofs.lemmas.Grind.{get_or_default_zero}
use Rattle.std.proofs.lemmas.Iterator.{YieldsList-from_slice}
use Rattle.std.proofs.lemmas.Iterator.Adapters.{serves_from_places}
use Rattle.std.proofs.lemmas.List.Recursion.{is_count_by}
use Rattle.base_lists.proofs.FillingLaws.{get_d_in}
use Rattle.span_memory.specs.Memory.{Below}
use Rattle.span_steps.specs.Steps.{is_due}
use Rattle.span_narrow.specs.States.{dues_in}
use Rattle.span_narrow.proofs.StateLaws.{dues_more}
use Rattle.span_narrow.proofs.chances.dues.Goals as goal

-- an element of the list is an entry
inside : (list twos marks : List ℕ) → Below list (length twos) → length marks ≡ length twos → (e k : ℕ) → k < length list → e ≡ get_or list k e
    → (e < length twos) × (e < length marks)
inside list twos marks below same e k h is =
    let low : e < length twos = rw (is ∙ get_or_default_zero list k e h) (below.each _ (get_d_in list k h)) in
    (low, omega (arith, low, same))

pub count-requires-clause-can : goal.count-requires-clause-can
count-requires-clause-can c = (
  search rules,
  search rules,
  serves_from_places (YieldsList-from_slice c.args.list.now cc) (λ x q r. search rules)
      (λ x k h is. let own = inside _ _ _ c.requires.below c.requires.marks_len x.now k h is in search (rules, own.0, own.1)),
)

pub returns : goal.returns
returns c =
    search (
      rules,
      is_count_by (dues_in c.args.twos.now c.args.marks.now c.args.i) (is_due c.args.twos.now c.args.marks.now c.args.i) refl
          (dues_more c.args.twos.now c.args.marks.now c.args.i),
    )
