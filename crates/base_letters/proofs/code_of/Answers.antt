-- `base_letters::code_of` meets its contract: std's search of the table is the search of the letters. Assumes nothing.
use borrow.Author.Rules.{rules}
use mathlib.Core.Path.{◌≡◌}
use mathlib.Core.List.{[], ◌∷◌}
use Rattle.std.specs.List.{position}
use Rattle.std.specs.Prelude.{eqb}
use Rattle.base_letters.proofs.Laws.{position_code}
use Rattle.base_letters.proofs.code_of.Goals as goal

pub returns : goal.returns
returns c =
    let found : c.position.result ≡ position (λ x. eqb x c.args.byte) (65 ∷ 67 ∷ 71 ∷ 84 ∷ []) = search rules in
    rw found (position_code _)
