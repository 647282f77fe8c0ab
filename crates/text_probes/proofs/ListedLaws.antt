-- What is listed: what is read is what the text lists, and its text reads as itself. Assumes nothing.
use mathlib.Core.Path.{◌≡◌, refl, sym, ap, ◌∙◌}
use mathlib.Core.Bool.{Bool, true, false, cond, ◌&&◌}
use mathlib.Core.List.{List, [], ◌∷◌, ◌++◌, append_assoc}
use mathlib.Core.Option.{Option, none, some}
use Prim.Native.Nat.{ℕ, ◌≤◌}
use native.Mathlib.Omega.{arith}
use lib.ListN.{length}
use lib.Dec.{leb, eqb}
use borrow.Author.Tests.{leb-true, le-leb, eqb-true, ne_eqb}
use Rattle.base_lists.proofs.TestLaws.{both}
use Rattle.base_text.specs.Text.{decimal}
use Rattle.text_probes.specs.declared.line.Marked.{Marked}
use Rattle.text_probes.specs.declared.line.Marked.TheVariants.{Bare, Two, Run}
use Rattle.text_probes.specs.Line.{listed_text, most_number, is_small}
use Rattle.text_probes.specs.Reading.{comma, hyphen, Read, is_digit, read_number, both_of, read_marked, listed_from, read_listed}
use Rattle.text_probes.proofs.FindLaws.{first_at, lack_joined, lack_one}
use Rattle.text_probes.proofs.NumberLaws.{number_read, number_text, decimal_lacks}

pub record Listed (xs : List ℕ) (r : Read Marked) : Type 0 where
  pub text : xs ≡ listed_text r.what ++ r.rest
  pub small : is_small r.what ≡ true

-- ---- what is read

small_both : (p q : ℕ) → p ≤ most_number → q ≤ most_number → (leb p most_number && leb q most_number) ≡ true
small_both p q g h = rw (le-leb p most_number g) (le-leb q most_number h)

-- two numbers and the byte b between them
module _ (mark : ℕ → ℕ → Marked) (b : ℕ) (texts : (p q : ℕ) → listed_text (mark p q) ≡ decimal p ++ (b ∷ decimal q))
    (smalls : (p q : ℕ) → is_small (mark p q) ≡ (leb p most_number && leb q most_number)) where
  both_read : (p : ℕ) (bs : List ℕ) (r : Read Marked) → p ≤ most_number → both_of mark p (read_number bs) ≡ some r → Listed (decimal p ++ (b ∷ bs)) r
  both_read p bs r few e = go (read_number bs) refl e
    where
      go : (o : Option (Read ℕ)) → read_number bs ≡ o → both_of mark p o ≡ some r → Listed (decimal p ++ (b ∷ bs)) r
      go none q e = let z : ◌≡◌ {A = ℕ} 0 1 = cc in absurd (omega arith)
      go (some n) q e =
          let same : record { what = mark p n.what; rest = n.rest } ≡ r = cc in
          let read = number_read bs n q in
          rw (sym same) (record {
            text = ap (λ (ys : List ℕ). decimal p ++ (b ∷ ys)) read.text
                ∙ sym (append_assoc (decimal p) (b ∷ decimal n.what) n.rest)
                ∙ ap (λ (ys : List ℕ). ys ++ n.rest) (sym (texts p n.what));
            small = smalls p n.what ∙ small_both p n.what few read.small;
          })

  both_text : (p q c : ℕ) (bs : List ℕ) → is_small (mark p q) ≡ true → is_digit c ≡ false
      → both_of mark p (read_number (decimal q ++ (c ∷ bs))) ≡ some (record { what = mark p q; rest = c ∷ bs })
  both_text p q c bs small other =
      let few = both (leb p most_number) (leb q most_number) (sym (smalls p q) ∙ small) in
      rw (number_text q c bs (leb-true q most_number few.1) other) refl

marked_read : (p : ℕ) (xs : List ℕ) (r : Read Marked) → p ≤ most_number → read_marked p xs ≡ some r → Listed (decimal p ++ xs) r
unfolding read_marked
marked_read p [] r few e = let same : record { what = Bare p; rest = [] } ≡ r = cc in rw (sym same) (record { text = refl; small = le-leb p most_number few })
marked_read p (b ∷ bs) r few e = go (eqb b comma) refl (eqb b hyphen) refl e
  where
    go : (t : Bool) → eqb b comma ≡ t → (u : Bool) → eqb b hyphen ≡ u
        → cond t (both_of Two p (read_number bs)) (cond u (both_of Run p (read_number bs)) (some (record { what = Bare p; rest = b ∷ bs }))) ≡ some r
        → Listed (decimal p ++ (b ∷ bs)) r
    go true q u s e = rw (eqb-true b comma q) (both_read Two comma (λ p q. refl) (λ p q. refl) p bs r few e)
    go false q true s e = rw (eqb-true b hyphen s) (both_read Run hyphen (λ p q. refl) (λ p q. refl) p bs r few e)
    go false q false s e =
        let same : record { what = Bare p; rest = b ∷ bs } ≡ r = cc in
        rw (sym same) (record { text = refl; small = le-leb p most_number few })

pub listed_read : (xs : List ℕ) (r : Read Marked) → read_listed xs ≡ some r → Listed xs r
unfolding read_listed
listed_read xs r e = go (read_number xs) refl e
  where
    go : (o : Option (Read ℕ)) → read_number xs ≡ o → listed_from o ≡ some r → Listed xs r
    go none q e = let z : ◌≡◌ {A = ℕ} 0 1 = cc in absurd (omega arith)
    go (some p) q e =
        let read = number_read xs p q in
        let listed = marked_read p.what p.rest r read.small e in
        record { text = read.text ∙ listed.text; small = listed.small }

-- ---- what is written, up to a byte that is no digit and no mark

module _ (c : ℕ) (bs : List ℕ) (other : is_digit c ≡ false) (no-comma : c ≡ comma → ⊥) (no-hyphen : c ≡ hyphen → ⊥) where
  pub listed_text_lem : (y : Marked) → is_small y ≡ true → read_listed (listed_text y ++ (c ∷ bs)) ≡ some (record { what = y; rest = c ∷ bs })
  unfolding read_listed read_marked
  listed_text_lem (Bare p) small =
      rw (number_text p c bs (leb-true p most_number small) other) (rw (ne_eqb c comma no-comma, ne_eqb c hyphen no-hyphen) refl)
  listed_text_lem (Two p q) small =
      let few = both (leb p most_number) (leb q most_number) small in
      let joined = append_assoc (decimal p) (comma ∷ decimal q) (c ∷ bs) in
      ap (λ (xs : List ℕ). listed_from (read_number xs)) joined
      ∙ rw (number_text p comma (decimal q ++ (c ∷ bs)) (leb-true p most_number few.0) refl)
      (both_text Two comma (λ p q. refl) (λ p q. refl) p q c bs small other)
  listed_text_lem (Run p q) small =
      let few = both (leb p most_number) (leb q most_number) small in
      let joined = append_assoc (decimal p) (hyphen ∷ decimal q) (c ∷ bs) in
      ap (λ (xs : List ℕ). listed_from (read_number xs)) joined
      ∙ rw (number_text p hyphen (decimal q ++ (c ∷ bs)) (leb-true p most_number few.0) refl)
      (both_text Run hyphen (λ p q. refl) (λ p q. refl) p q c bs small other)

-- it has no such byte
pub listed_lacks : (b : ℕ) (y : Marked) → is_digit b ≡ false → (comma ≡ b → ⊥) → (hyphen ≡ b → ⊥) → first_at b (listed_text y) ≡ length (listed_text y)
listed_lacks b (Bare p) other no-comma no-hyphen = decimal_lacks b other p p (omega arith)
listed_lacks b (Two p q) other no-comma no-hyphen =
    lack_joined b (decimal p) (comma ∷ decimal q) (decimal_lacks b other p p (omega arith))
    (lack_one b comma (decimal q) no-comma (decimal_lacks b other q q (omega arith)))
listed_lacks b (Run p q) other no-comma no-hyphen =
    lack_joined b (decimal p) (hyphen ∷ decimal q) (decimal_lacks b other p p (omega arith))
    (lack_one b hyphen (decimal q) no-hyphen (decimal_lacks b other q q (omega arith)))
