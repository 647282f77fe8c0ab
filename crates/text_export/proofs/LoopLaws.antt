-- The text of a card's lines, line by line: the laws of the two loops, one that counts its bytes and one that puts them. Assumes nothing.
use mathlib.Core.Path.{◌≡◌, refl, sym, ap, ◌∙◌}
use mathlib.Core.List.{List, [], ◌∷◌, ◌++◌, append_assoc, append-nil}
use Prim.Native.Nat.{ℕ, zero, suc, ◌+◌, ◌*◌, ◌-◌, ◌≤◌, ◌<◌}
use native.Mathlib.Numerals.{add-one}
use native.Mathlib.Omega.{arith}
use lib.ListN.{length, length-append}
use Rattle.base_lists.specs.Row.{row}
use Rattle.base_lists.proofs.RowLaws.{row_none, row_more}
use Rattle.base_lists.proofs.PutLaws.{put_whole}
use Rattle.card_entries.specs.declared.Format.{Format}
use Rattle.card_layout.specs.Layout.{slot_of}
use Rattle.base_text.specs.Putting.{Put}
use Rattle.base_text.proofs.PuttingLaws.{length_put, put_nothing, put_then, put_as}
use Rattle.text_probes.specs.Line.{Line, line_text, most_line}
use Rattle.text_export.specs.Exporting.{line_for, text_of}

-- ---- lines one after the other

text_joined : (xs ys : List Line) → text_of (xs ++ ys) ≡ text_of xs ++ text_of ys
text_joined [] ys = refl
text_joined (x ∷ xs) ys =
    ap (λ (t : List ℕ). line_text x ++ t) (text_joined xs ys) ∙ sym (append_assoc (line_text x) (text_of xs) (text_of ys))

module _ (f : ℕ → Line) where
  pub text_more : (e : ℕ) → text_of (row f 0 (e + 1)) ≡ text_of (row f 0 e) ++ line_text (f e)
  text_more e =
      let here : 0 + e ≡ e = omega arith in
      ap (λ (n : ℕ). text_of (row f 0 n)) (add-one e)
      ∙ ap text_of (row_more f 0 e)
      ∙ text_joined (row f 0 e) (f (0 + e) ∷ [])
      ∙ ap (λ (t : List ℕ). text_of (row f 0 e) ++ t) (append-nil (line_text (f (0 + e))))
      ∙ ap (λ (n : ℕ). text_of (row f 0 e) ++ line_text (f n)) here

  text_longer : (e d : ℕ) → length (text_of (row f 0 e)) ≤ length (text_of (row f 0 (e + d)))
  text_longer e zero = let same : e + 0 ≡ e = omega arith in rw same (omega arith)
  text_longer e (suc d) =
      let next : e + suc d ≡ e + d + 1 = omega arith in
      rw next (omega (arith, text_longer e d, ap length (text_more (e + d)), length-append (text_of (row f 0 (e + d))) (line_text (f (e + d)))))

  -- the next line fits in the text of all
  pub text_room_lem : (e m : ℕ) → e < m → length (text_of (row f 0 e)) + length (line_text (f e)) ≤ length (text_of (row f 0 m))
  text_room_lem e m h =
      let all : e + 1 + (m - (e + 1)) ≡ m = omega arith in
      let longer = rw all at (text_longer (e + 1) (m - (e + 1))) in
      omega (arith, ap length (text_more e), length-append (text_of (row f 0 e)) (line_text (f e)))

-- ---- the loops

abbrev pub line_at : Format → List ℕ → ℕ → Line
line_at f card e = line_for f.kind f.l (slot_of card e)

-- the lines so far, counted
pub record Counted (f : Format) (card : List ℕ) (n e : ℕ) : Type 0 where
  pub counts : n ≡ length (text_of (row (line_at f card) 0 e))
  pub few : n ≤ most_line * e

-- and put
abbrev pub Lines : Format → List ℕ → List ℕ → List ℕ → ℕ → ℕ → Type 0
Lines f card out₀ out at e = Put (text_of (row (line_at f card) 0 e)) 0 out₀ at out

module _ (f : Format) (card : List ℕ) where
  none : text_of (row (line_at f card) 0 0) ≡ []
  none = ap text_of (row_none (line_at f card) 0)

  pub counted_none : Counted f card 0 0
  counted_none = record { counts = sym (ap length none); few = omega arith }

  pub counted_turn : {n e k : ℕ} → Counted f card n e → k ≡ length (line_text (line_at f card e)) → k ≤ most_line
      → Counted f card (n + k) (e + 1)
  counted_turn {n} {e} {k} so_far is most = record {
    counts =
        omega (
          arith,
          so_far.counts,
          is,
          ap length (text_more (line_at f card) e),
          length-append (text_of (row (line_at f card) 0 e)) (line_text (line_at f card e)),
        );
    few = omega (arith, so_far.few);
  }

  pub lines_none : (out : List ℕ) → Lines f card out out 0 0
  lines_none out = rw none (put_nothing out 0 (omega arith))

  pub lines_turn : (e : ℕ) {out₀ out after : List ℕ} {at to : ℕ} → Lines f card out₀ out at e → Put (line_text (line_at f card e)) at out to after
      → Lines f card out₀ after to (e + 1)
  lines_turn e so_far put = put_as (put_then so_far put) (sym (text_more (line_at f card) e))

  pub lines_room : (e : ℕ) {out₀ out : List ℕ} {at : ℕ} → Lines f card out₀ out at e → e < f.m
      → length out₀ ≡ length (text_of (row (line_at f card) 0 f.m))
      → at + length (line_text (line_at f card e)) ≤ length out
  lines_room e so_far h whole = omega (arith, so_far.ends, length_put so_far, text_room_lem (line_at f card) e f.m h)

  pub lines_all : {out₀ out : List ℕ} {at : ℕ} → Lines f card out₀ out at f.m → length out₀ ≡ length (text_of (row (line_at f card) 0 f.m))
      → out ≡ text_of (row (line_at f card) 0 f.m)
  lines_all {out₀} so_far whole = so_far.stands ∙ put_whole out₀ (text_of (row (line_at f card) 0 f.m)) (sym whole)
