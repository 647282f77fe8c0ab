-- `card_entries::words_of` meets its contract: the constant table is the row of the powers of 4, which is computed. Assumes nothing.
use borrow.Author.Rules.{rules}
use Prim.Native.Nat.{ℕ, suc, ◌^◌}
use mathlib.Core.Path.{ap, ◌∙◌}
use native.Mathlib.Omega.{arith}
use Rattle.base_lists.proofs.RowLaws.{row_at}
use Rattle.card_entries.specs.Fault.{most_length}
use Rattle.card_entries.proofs.Edges.{powers_of_four}
use Rattle.card_entries.proofs.words_of.Goals as goal

pub returns : goal.returns
returns c =
    let l = c.args.l in
    rw powers_of_four at (row_at (λ (i : ℕ). 4 ^ i) 0 0 (suc most_length) l (search rules)) ∙ ap (λ (i : ℕ). 4 ^ i) (omega arith)
