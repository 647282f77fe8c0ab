-- `firmware::belfrymist_fetch` meets its contract: the part is empty where the companion refuses, and otherwise starts at its block's
-- place in the card. Assumes nothing.
use mathlib.Core.Path.{◌≡◌, sym, ◌∙◌}
use native.Mathlib.Omega.{arith}
use lib.ListN.{length}
use borrow.Author.Tests.{true-eqb, false-eqb}
use Rattle.firmware.proofs.Laws.{empty_flat, part_there, part_flat}
use Rattle.firmware.proofs.belfrymist_fetch.Goals as goal

pub returns-then-is_empty : goal.returns-then-is_empty
returns-then-is_empty c = empty_flat _ _ c.fetch-part.ensures.bytes (true-eqb _ _ (sym c.if-is_empty.true ∙ c.is_empty.ensures))

pub overflow_mul-result : goal.overflow_mul-result
overflow_mul-result c =
    let start = c.args in
    omega (arith, part_there start.card.now start.k c.fetch-part.ensures.bytes (false-eqb _ _ (sym c.if-is_empty.false ∙ c.is_empty.ensures)))

pub returns : goal.returns
returns c = part_flat _ _ c.fetch-part.ensures.bytes (false-eqb _ _ (sym c.if-is_empty.false ∙ c.is_empty.ensures))
