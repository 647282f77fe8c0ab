-- Laws of the lines: as their parts are put one after the other. No contract cites this file. Assumes nothing.
use mathlib.Core.Path.{◌≡◌, refl}
use mathlib.Core.Bool.{Bool, true, false, cond}
use mathlib.Core.List.{[], ◌∷◌, ◌++◌}
use Prim.Native.Nat.{ℕ}
use lib.Dec.{eqb}
use lib.ListN.{length}
use borrow.Author.Tests.{eq-eqb, ne_eqb}
use Rattle.card_entries.specs.declared.Format.{Format}
use Rattle.card_entries.specs.Fault.{pair}
use Rattle.base_text.specs.Text.{ascii, decimal, others}
use Rattle.program_lines.specs.Lines.{kind_name, card_line}
use Rattle.program_lines.specs.Rooms.{name_bytes}

-- ---- line 1

pub name_pair : {kind : ℕ} → kind ≡ pair → ascii "pair" ≡ kind_name kind
unfolding kind_name
name_pair {kind} e = rw (eq-eqb kind pair e)

pub name_span : {kind : ℕ} → (kind ≡ pair → ⊥) → ascii "span" ≡ kind_name kind
unfolding kind_name
name_span {kind} n = rw (ne_eqb kind pair n)

pub name_length_lem : (kind : ℕ) → length (kind_name kind) ≡ name_bytes
unfolding kind_name
name_length_lem kind = go (eqb kind pair)
  where
    go : (t : Bool) → length (cond t (ascii "pair") (ascii "span")) ≡ name_bytes
    go true = refl
    go false = refl

pub card_put : {f g : Format} → f ≡ g
    → ascii "CARD " ++ kind_name f.kind ++ others (decimal f.l ∷ decimal f.m ∷ []) ≡ card_line g
unfolding card_line
card_put e = rw e
