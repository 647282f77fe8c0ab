-- `card_reader::reading::head_holds` meets its contract: 1 first, then the companion's refusal where no part is fetched, then the fields of the part.
-- Assumes nothing.
use mathlib.Core.Path.{ap, ◌∙◌}
use mathlib.Core.List.{List}
use Prim.Native.Nat.{ℕ}
use Rattle.base_answers.specs.Answer.{first, sound}
use Rattle.card_block.proofs.Laws.{part_holds, part_block}
use Rattle.card_entries.specs.Bounds.{most_entries}
use Rattle.card_reader.specs.Reading.{field_tests}
use Rattle.card_reader.proofs.ReadingLaws.{head_held}
use Rattle.card_reader.proofs.reading.head_holds.Goals as goal

pub returns : goal.returns
returns c =
    let bytes = c.fetch-head.ensures.bytes in
    c.fields_hold.ensures
    ∙ ap (λ (b : List ℕ). first (field_tests most_entries b) sound) (part_block _ _ bytes c.if-head-eq0.false)
    ∙ head_held _ _ c.if-card-lt-BLOCK.false (part_holds _ _ bytes c.if-head-eq0.false)
