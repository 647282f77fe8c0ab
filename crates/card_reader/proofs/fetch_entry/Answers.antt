-- `card_reader::fetch_entry` meets its contract: the reader's refusal, or by the index.
-- Assumes nothing.
use mathlib.Core.Path.{sym, ap, ◌∙◌}
use native.Mathlib.Omega.{arith}
use Rattle.base_answers.specs.Answer.{given}
use Rattle.card_entries.specs.declared.Format.{Format}
use Rattle.card_entries.specs.Bounds.{most_entries}
use Rattle.card_reader.proofs.FetchingLaws.{told_admitted, entry_on_card, entry_found, entry_absent}
use Rattle.card_reader.proofs.fetch_entry.Goals as goal

-- ---- past the admission

pub entry_at-requires : goal.entry_at-requires
entry_at-requires c =
    let has = told_admitted _ _ c.admit.ensures c.in_ok-f.was in (
      ap (λ (f : Format). f.kind) has.told,
      omega (arith, entry_on_card most_entries c.args.card.now has c.args.i c.if-i-f.true),
    )

pub returns-then-i-f : goal.returns-then-i-f
returns-then-i-f c =
    let has = told_admitted _ _ c.admit.ensures c.in_ok-f.was in
    ap given c.entry_at.ensures ∙ sym (entry_found _ _ has _ c.if-i-f.true)

pub returns-else-i-f : goal.returns-else-i-f
returns-else-i-f c = sym (entry_absent _ _ (told_admitted _ _ c.admit.ensures c.in_ok-f.was) _ c.if-i-f.false)
