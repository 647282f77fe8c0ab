-- How many sequences a list has, by computation, and so how many builds the entries of a small table have.
--   another s t           == whether t is another sequence than s
--   distinct ss           == the members of ss, each once
-- Assumes nothing.
use mathlib.Core.Path.{◌≡◌, refl, sym}
use mathlib.Core.Logic.{◌≢◌, ◌⊎◌, inl, inr, ⊎_elim}
use mathlib.Core.Bool.{Bool, true, false}
use mathlib.Core.List.{List, [], ◌∷◌}
use Prim.Native.Nat.{ℕ}
use lib.Dec.{T}
use lib.ListN.{length}
use Rattle.card_entries.specs.declared.Entry.{Entry}
use Rattle.base_lists.specs.Members.{In, first, later, Rising, flat, rises, keep}
use Rattle.build_sequence.specs.Build.{Build}
use Rattle.build_sequence.specs.Many.{Many}
use Rattle.base_lists.proofs.ListLaws.{in_cons, in_cast, in_keep, keep_in, rising_keep}
use Rattle.build_sequence.proofs.OrderLaws.{before_irr}
use Rattle.build_sequence.proofs.ManyLaws.{many_same}
use Rattle.build_sequence.proofs.Enumerator.{sequences, sequences_sound, sequences_complete}
use Rattle.build_sequence.proofs.VerdictOf.{Comparison, same, before, after, Compared, compared, compared_says}

abbrev is_another : Comparison → Bool
is_another same = false
is_another before = true
is_another after = true

unfoldable pub another : List ℕ → List ℕ → Bool
unfolding compared
another s t = is_another (compared s t)

unfoldable pub distinct : List (List ℕ) → List (List ℕ)
unfolding another
distinct [] = []
distinct (s ∷ ss) = s ∷ keep (another s) (distinct ss)

-- ---- each member once

another_is : (s t : List ℕ) → T (another s t) → s ≢ t
unfolding another
another_is s t h = go (compared s t) (compared_says s t) h
  where
    go : (o : Comparison) → Compared s t o → T (is_another o) → s ≢ t
    go same e h d = h
    go before b h d = before_irr t (rw d at b)
    go after b h d = before_irr t (rw d at b)

same_or_another : (s t : List ℕ) → (t ≡ s) ⊎ T (another s t)
unfolding another
same_or_another s t = go (compared s t) (compared_says s t)
  where
    go : (o : Comparison) → Compared s t o → (t ≡ s) ⊎ T (is_another o)
    go same e = inl (sym e)
    go before b = inr tt
    go after b = inr tt

distinct_differ : (ss : List (List ℕ)) → Rising (λ (s t : List ℕ). s ≢ t) (distinct ss)
unfolding distinct
distinct_differ [] = flat
distinct_differ (s ∷ ss) =
    rises (λ t h. another_is s t (in_keep (another s) (distinct ss) h).1) (rising_keep (another s) (distinct_differ ss))

in_distinct : (ss : List (List ℕ)) {t : List ℕ} → In t (distinct ss) → In t ss
unfolding distinct
in_distinct (s ∷ ss) h =
    ⊎_elim (λ e. in_cast e first) (λ k. later (in_distinct ss (in_keep (another s) (distinct ss) k).0)) (in_cons h)
in_distinct [] {t = t} h = elim h [ ]

distinct_in : (ss : List (List ℕ)) {t : List ℕ} → In t ss → In t (distinct ss)
unfolding distinct
distinct_in (s ∷ ss) {t} h =
    ⊎_elim (λ e. in_cast e first)
    (λ k. ⊎_elim (λ e. in_cast e first) (λ a. later (keep_in (another s) (distinct_in ss k) a)) (same_or_another s t)) (in_cons h)
distinct_in [] {t = t} h = elim h [ ]

-- ---- how many builds the entries have, by their arrangements

pub many_enumerated : (l : ℕ) (es : List Entry) → Many (Build l es) (length (distinct (sequences l es)))
many_enumerated l es =
    many_same (λ s h. sequences_sound h) (λ s b. sequences_complete b)
    (record {
      all = distinct (sequences l es);
      count = refl;
      differ = distinct_differ (sequences l es);
      fit = λ s. in_distinct (sequences l es);
      none_else = λ s. distinct_in (sequences l es);
    })
