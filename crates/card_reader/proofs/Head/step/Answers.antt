-- `card_reader::Head::step` meets its contract: the reader's refusal, or by where the head stands.
-- Assumes nothing.
use mathlib.Core.Path.{sym, ap, ◌∙◌}
use native.Mathlib.Omega.{arith}
use Rattle.base_answers.specs.Answer.{given}
use Rattle.card_entries.specs.declared.Entry.{Entry}
use Rattle.card_entries.specs.declared.Format.{Format}
use Rattle.card_entries.specs.Bounds.{most_entries}
use Prim.Native.Nat.{◌+◌}
use Rattle.card_reader.specs.Fetching.{more}
use Rattle.card_reader.proofs.FetchingLaws.{told_admitted, entry_on_card, step_more, step_end}
use Rattle.card_reader.proofs.Head.step.Goals as goal

-- ---- past the admission

pub entry_at-requires : goal.entry_at-requires
entry_at-requires c =
    let has = told_admitted _ _ c.admit.ensures c.in_ok-f.was in (
      ap (λ (f : Format). f.kind) has.told,
      omega (arith, entry_on_card most_entries c.args.card.now has c.args.self.at c.if-at-f.true),
    )

pub returns-then-at-f : goal.returns-then-at-f
returns-then-at-f c =
    let has = told_admitted _ _ c.admit.ensures c.in_ok-f.was in
    ap (λ (e : Entry). given (more e (c.args.self.at + 1))) c.entry_at.ensures ∙ sym (step_more _ _ has _ c.if-at-f.true)

pub returns-else-at-f : goal.returns-else-at-f
returns-else-at-f c = sym (step_end _ _ (told_admitted _ _ c.admit.ensures c.in_ok-f.was) _ c.if-at-f.false)
