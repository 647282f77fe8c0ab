-- Laws of what is said of two cards, or of one under two budgets. Assumes nothing.
use mathlib.Core.Path.{◌≡◌, refl, sym, ap, ◌∙◌}
use mathlib.Core.Logic.{◌⊎◌, inl, inr, ⊎_map, ⊎_elim}
use mathlib.Core.List.{List, ◌++◌, map}
use Prim.Native.Nat.{ℕ, ◌≤◌}
use native.Mathlib.Omega.{arith}
use lib.ListN.{length, take, drop}
use Rattle.base_answers.specs.Answer.{Answer, given, refused, first, sound}
use Rattle.base_answers.proofs.Laws.{given_not_refused}
use Rattle.base_letters.specs.Letters.{letter_of}
use Rattle.card_entries.specs.declared.Slot.{Slot}
use Rattle.card_entries.specs.Entry.{entry_of}
use Rattle.card_entries.specs.Fault.{span}
use Rattle.card_entries.specs.Hold.{Hold, format_for}
use Rattle.card_entries.specs.Bounds.{most_entries}
use Rattle.card_layout.specs.Layout.{told_by, slots_on}
use Rattle.base_lists.specs.Members.{Paired}
use Rattle.build_sequence.specs.Verdict.{Before, Verdict, sole, several, no_build, Outcome, settled, unsettled, Widens}
use Rattle.span_theory.specs.Compared.{NoLaterIf, Narrowed}
use Rattle.span_theory.proofs.Compare as spans_compare
use Rattle.pair_theory.specs.Settling as pairs
use Rattle.pair_theory.proofs.Meant as pairs_meant
use Rattle.build_card.specs.declared.BuildAnswer.{BuildAnswer}
use Rattle.build_card.specs.declared.BuildAnswer.TheVariants.{Sole, None}
use Rattle.build_card.specs.Building.{build_tests, Means, on_pairs, on_spans, Says, tells, refuses, answer_of, letters_after}
use Rattle.build_card.proofs.FromLaws.{letters_start}
use Rattle.proved_demands.specs.Demanded.{Fits, Passes, HasBuild, IsSeveral, Letters, sequence_in, Widened}
use Rattle.proved_demands.proofs.MeaningLaws.{means_tells, said_sole, said_several, says_means, card_holds}

-- ---- two cards

-- what demand 3 says of what is said of them
abbrev NoLaterSaid : Answer Outcome → Answer Outcome → Type 0
NoLaterSaid (given o) (given o') = NoLaterIf o o'
NoLaterSaid (given o) (refused n p) = Unit {0}
NoLaterSaid (refused n p) a = Unit {0}

abbrev NarrowedSaid : Answer Outcome → Answer Outcome → Type 0
NarrowedSaid (given o) (given o') = Narrowed o o'
NarrowedSaid (given o) (refused n p) = Unit {0}
NarrowedSaid (refused n p) a = Unit {0}

-- over the entries of one kind
module _ {kind l b c : ℕ} {es es' : List Slot} (wider : Paired Widens (map (entry_of kind) es) (map (entry_of kind) es'))
    (enters : kind ≡ span → Hold most_entries (format_for span l es) es)
    (enters' : kind ≡ span → Hold most_entries (format_for span l es') es') where
  pub means_later : {o o' : Outcome} → Means kind l es b o → Means kind l es' c o' → NoLaterIf o o'
  means_later (on_pairs e (pairs.settles {v} t)) (on_pairs f (pairs.settles {v = v'} u)) =
      pairs_meant.means_later {es = es} {es' = es'} {v = v} {v' = v'} {n = 0} {n' = 0} (rw e at wider) (pairs.settles t) (pairs.settles u)
  means_later (on_spans e p) (on_spans f q) = spans_compare.means_later (enters e) (enters' f) (rw e at wider) p q
  means_later (on_pairs e p) (on_spans f q) = absurd (omega (arith, e, f))
  means_later (on_spans e p) (on_pairs f q) = absurd (omega (arith, e, f))

module _ {kind l b : ℕ} {es es' : List Slot} (wider : Paired Widens (map (entry_of kind) es) (map (entry_of kind) es'))
    (enters : kind ≡ span → Hold most_entries (format_for span l es) es)
    (enters' : kind ≡ span → Hold most_entries (format_for span l es') es') where
  pub means_narrowed : {o o' : Outcome} → Means kind l es b o → Means kind l es' b o' → Narrowed o o'
  means_narrowed (on_pairs e (pairs.settles {v} t)) (on_pairs f (pairs.settles {v = v'} u)) =
      spans_compare.no_later_narrowed v v'
      (pairs_meant.means_later {es = es} {es' = es'} {v = v} {v' = v'} {n = 0} {n' = 0} (rw e at wider) (pairs.settles t) (pairs.settles u))
      (omega arith)
  means_narrowed (on_spans e p) (on_spans f q) = spans_compare.means_narrowed (enters e) (enters' f) (rw e at wider) p q
  means_narrowed (on_pairs e p) (on_spans f q) = absurd (omega (arith, e, f))
  means_narrowed (on_spans e p) (on_pairs f q) = absurd (omega (arith, e, f))

module _ {card card' : List ℕ} (more : Widened card card') where
  -- both cards by the kind and the letters of the second
  wider_as : Paired Widens (map (entry_of (told_by card').kind) (slots_on card)) (map (entry_of (told_by card').kind) (slots_on card'))
  wider_as = rw more.kind at more.entries

  as_second : {b : ℕ} {o : Outcome} → Means (told_by card).kind (told_by card).l (slots_on card) b o
      → Means (told_by card').kind (told_by card').l (slots_on card) b o
  as_second m = rw (more.kind, more.letters) at m

  holds_as : (room : ℕ) → Passes card room → (told_by card').kind ≡ span
      → Hold most_entries (format_for span (told_by card').l (slots_on card)) (slots_on card)
  holds_as room e k = rw more.letters at (card_holds card room e (more.kind ∙ k))

  pub said_later : {b c room room' : ℕ} {a a' : Answer Outcome} → Says most_entries card b room a → Says most_entries card' c room' a'
      → NoLaterSaid a a'
  said_later {room} {room'} (tells e p) (tells f q) =
      means_later wider_as (holds_as room e) (card_holds card' room' f) (as_second p) q
  said_later (tells e p) (refuses f) = tt
  said_later (refuses e) q = tt

  pub said_narrowed : {b room room' : ℕ} {a a' : Answer Outcome} → Says most_entries card b room a → Says most_entries card' b room' a'
      → NarrowedSaid a a'
  said_narrowed {room} {room'} (tells e p) (tells f q) =
      means_narrowed wider_as (holds_as room e) (card_holds card' room' f) (as_second p) q
  said_narrowed (tells e p) (refuses f) = tt
  said_narrowed (refuses e) q = tt

-- ---- their answers and outputs

-- the sequence of what is said, where there is one, is F
abbrev FitsSaid : (List ℕ → Type 0) → Answer Outcome → Type 0
FitsSaid F (given (settled (sole s) n)) = F s
FitsSaid F (given (settled (several s) n)) = F s
FitsSaid F (given (settled no_build n)) = Unit {0}
FitsSaid F (given (unsettled n)) = Unit {0}
FitsSaid F (refused n p) = Unit {0}

pub said_fits : {limit budget room : ℕ} {card : List ℕ} (a : Answer Outcome) → Says limit card budget room a → FitsSaid (Fits card) a
said_fits (given (settled (sole s) n)) q = (means_tells (says_means q)).0
said_fits (given (settled (several s) n)) q = (means_tells (says_means q)).0
said_fits (given (settled no_build n)) q = tt
said_fits (given (unsettled n)) q = tt
said_fits (refused n p) q = tt

-- what is said gives a build
abbrev GivesBuild : Answer Outcome → Type 0
GivesBuild (given (settled (sole s) n)) = Unit {0}
GivesBuild (given (settled (several s) n)) = Unit {0}
GivesBuild (given (settled no_build n)) = ⊥
GivesBuild (given (unsettled n)) = ⊥
GivesBuild (refused n p) = ⊥

pub gives_build : (a : Answer Outcome) → HasBuild (answer_of a) → GivesBuild a
gives_build a (n, k, e) =
    ⊎_elim (λ h. let z = said_sole a (sym h) in rw z.1 tt) (λ h. let z = said_several a (sym h) in rw z.1 tt) e

-- where the second is settled
module _ (F F' : List ℕ → Type 0) (before before' : List ℕ) (m : ℕ) where
  pub later_told : (a : Answer Outcome) (v : Verdict) → FitsSaid F a → FitsSaid F' (given (settled v m)) → NoLaterSaid a (given (settled v m))
      → GivesBuild a
      → (s : List ℕ) × (t : List ℕ) × (F s × F' t)
      × (Letters s before (letters_after a before) × Letters t before' (letters_after (given (settled v m)) before'))
      × (HasBuild (answer_of (given (settled v m))) × ((t ≡ s) ⊎ Before t s))
  later_told (given (settled (sole s) n)) (sole t) f f' h g = (s, t, (f, f'), (refl, refl), ((length t, m, inl refl), inl h))
  later_told (given (settled (sole s) n)) (several t) f f' h g = (s, t, (f, f'), (refl, refl), ((length t, m, inr refl), h))
  later_told (given (settled (sole s) n)) no_build f f' h g = absurd h
  later_told (given (settled (several s) n)) (sole t) f f' h g = absurd h
  later_told (given (settled (several s) n)) (several t) f f' h g = (s, t, (f, f'), (refl, refl), ((length t, m, inr refl), h))
  later_told (given (settled (several s) n)) no_build f f' h g = absurd h
  later_told (given (settled no_build n)) v f f' h g = absurd g
  later_told (given (unsettled n)) v f f' h g = absurd g
  later_told (refused n p) v f f' h g = absurd g

pub several_told : (s : List ℕ) (n m : ℕ) (v : Verdict) → NoLaterSaid (given (settled (several s) n)) (given (settled v m))
    → IsSeveral (answer_of (given (settled v m)))
several_told s n m (sole t) h = absurd h
several_told s n m (several t) h = (length t, m, refl)
several_told s n m no_build h = absurd h

sole_narrowed : (o : Outcome) (t before before' : List ℕ) {k : ℕ} → Narrowed o (settled (sole t) k)
    → (j : ℕ) × (j ≤ k)
    × ((answer_of (given o) ≡ given (None j))
    ⊎ ((answer_of (given o) ≡ given (Sole (length t) j))
    × (take (length t) (letters_after (given o) before) ≡ take (length t) (map letter_of t ++ drop (length t) before'))))
sole_narrowed o t before before' (j, e, h) = (j, h, ⊎_map none_too same_too e)
  where
    none_too : o ≡ settled no_build j → answer_of (given o) ≡ given (None j)
    none_too f = ap (λ (x : Outcome). answer_of (given x)) f

    same_too : o ≡ settled (sole t) j
        → (answer_of (given o) ≡ given (Sole (length t) j))
        × (take (length t) (letters_after (given o) before) ≡ take (length t) (map letter_of t ++ drop (length t) before'))
    same_too f = (
      ap (λ (x : Outcome). answer_of (given x)) f,
      ap (λ (x : Outcome). take (length t) (letters_after (given x) before)) f ∙ letters_start t before ∙ sym (letters_start t before'),
    )

pub sole_narrowed_told : (o : Outcome) (t before before' : List ℕ) {after after' : List ℕ} {n k : ℕ} {r : Answer BuildAnswer}
    → r ≡ answer_of (given o)
    → after ≡ letters_after (given o) before
    → n ≡ length t
    → after' ≡ map letter_of t ++ drop (length t) before'
    → Narrowed o (settled (sole t) k)
    → (j : ℕ) × (j ≤ k) × ((r ≡ given (None j)) ⊎ ((r ≡ given (Sole n j)) × (take n after ≡ take n after')))
sole_narrowed_told o t before before' a out size out' h = rw (a, out, size, out') (sole_narrowed o t before before' h)

pub none_narrowed : (o : Outcome) {k : ℕ} → Narrowed o (settled no_build k) → (j : ℕ) × (j ≤ k) × (answer_of (given o) ≡ given (None j))
none_narrowed o (j, e, h) = (j, h, ap (λ (x : Outcome). answer_of (given x)) e)

-- where the tests hold, an outcome is said
pub holds_given : {limit budget room : ℕ} {card : List ℕ} {a : Answer Outcome} → Says limit card budget room a
    → first (build_tests limit card room) sound ≡ given sound
    → (o : Outcome) × (a ≡ given o)
holds_given (tells {o} e m) hold = (o, refl)
holds_given (refuses e) hold = absurd (given_not_refused (sym hold ∙ e))

-- ---- one card under two budgets

means_larger : {kind l b c n : ℕ} {es : List Slot} {v : Verdict} → b ≤ c → Means kind l es b (settled v n) → Means kind l es c (settled v n)
means_larger h (on_pairs e p) = on_pairs e p
means_larger h (on_spans e p) = on_spans e (spans_compare.means_larger h p)

-- what settles the card is said of it under every larger budget, and with any output that has room
pub settled_larger : {card : List ℕ} {b c room room' n : ℕ} {v : Verdict} → b ≤ c → Passes card room'
    → Says most_entries card b room (given (settled v n))
    → Says most_entries card c room' (given (settled v n))
settled_larger h passes (tells e m) = tells passes (means_larger h m)

-- and gives one sequence
pub same_sequence : (v : Verdict) (n : ℕ) (before before' : List ℕ)
    → sequence_in (answer_of (given (settled v n))) (letters_after (given (settled v n)) before)
    ≡ sequence_in (answer_of (given (settled v n))) (letters_after (given (settled v n)) before')
same_sequence (sole s) n before before' = letters_start s before ∙ sym (letters_start s before')
same_sequence (several s) n before before' = letters_start s before ∙ sym (letters_start s before')
same_sequence no_build n before before' = refl
