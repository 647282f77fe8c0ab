-- Two cards as demand 3 takes them, of which the second allows more and the first does not, for each verdict that demand 3 speaks of; in two of
-- them the entries stand in different orders (`widenings`). So no theorem of demand 3 speaks of equal cards alone. Assumes nothing.
use mathlib.Core.Path.{◌≡◌, refl, sym, ◌∙◌}
use mathlib.Core.Logic.{⊎_elim}
use mathlib.Core.List.{List, [], ◌∷◌, map}
use mathlib.Core.Bool.{Bool, true, false, ◌&&◌, ◌||◌, cond, true≢false}
use Prim.Native.Nat.{ℕ, ◌≤◌}
use native.Mathlib.Omega.{arith}
use lib.Dec.{eqb, leb}
use borrow.Author.Tests.{leb-true, le-leb, eq-eqb}
use Rattle.base_lists.proofs.TestLaws.{both}
use Rattle.card_entries.specs.declared.Places.{Places}
use Rattle.card_entries.specs.declared.Places.TheVariants.{One, Two, Span}
use Rattle.card_entries.specs.declared.Entry.{Entry}
use Rattle.card_entries.specs.Entry.{allows, entry_of}
use Rattle.card_entries.specs.Fault.{pair, span}
use Rattle.base_lists.specs.Members.{In, here, there, Paired, nobody}
use Rattle.base_lists.specs.Members as lists
use Rattle.build_sequence.specs.Verdict.{Tells, Widens, settled}
use Rattle.build_sequence.specs.Build.{Build}
use Rattle.build_sequence.specs.Tables.{Table, A, C, G, entry, stored_in, p1, p2, p3, p4, s1, s2, s3}
use Rattle.base_lists.proofs.ListLaws.{in_cons, not_in_nil, in_append, paired_in}
use Rattle.build_sequence.proofs.Tables.{map_agree, tables_told}
use Rattle.span_theory.specs.Walk.{placements}
use Rattle.span_theory.specs.Settling as spans
use Rattle.pair_theory.specs.Settling as pairs
use Rattle.build_card.specs.Building.{Means, on_pairs, on_spans}
use Rattle.card_layout.specs.Layout.{entries_on}
use Rattle.proved_demands.specs.Demanded.{Widened}
use Rattle.proved_demands.specs.Tables.{kind_of, Holds, OnCard, Within, p2_turned, p1_longer, p4_less, s2_turned, s1_wider, s2_less, s3_less, widenings}
use Rattle.proved_demands.proofs.Examples.{compared_pairs, compared_spans, compared, compared_hold}
use Rattle.proved_demands.proofs.Examples.{compared_stored, compared_entries, compared_decided, pairs_compared, spans_compared}
use Rattle.proved_demands.proofs.Inhabited.{cards_of}

-- ---- the entries pair off

module _ (w : ℕ) where
  wider : {ps qs : Places} → ((i : ℕ) → allows ps i ≡ true → allows qs i ≡ true)
      → Widens (record { word = w; places = ps }) (record { word = w; places = qs })
  wider h = record { word = refl; places = h }

or_true : (t : Bool) → (t || true) ≡ true
or_true true = refl
or_true false = refl

first_wider : (p q i : ℕ) → allows (One p) i ≡ true → allows (Two p q) i ≡ true
first_wider p q i h = rw h

second_wider : (p q i : ℕ) → allows (One q) i ≡ true → allows (Two p q) i ≡ true
second_wider p q i h = rw h (or_true (eqb i p))

span_wider : (f g f' g' : ℕ) → f' ≤ f → g ≤ g' → (i : ℕ) → allows (Span f g) i ≡ true → allows (Span f' g') i ≡ true
span_wider f g f' g' a b i h =
    let in_span = both (leb f i) (leb i g) h in
    rw (le-leb f' i (omega (arith, leb-true f i in_span.0)), le-leb i g' (omega (arith, leb-true i g in_span.1))) refl

-- an entry beside its own, in the order of both lists; one whose places stay
module _ {e e' : Entry} {es es' : List Entry} where
  next : Widens e e' → Paired Widens es es' → Paired Widens (e ∷ es) (e' ∷ es')
  next w more = lists.pair w here here more

same : {e : Entry} {es es' : List Entry} → Paired Widens es es' → Paired Widens (e ∷ es) (e ∷ es')
same {e} more = next (record { word = refl; places = λ i h. h }) more

p2_in_p1 : Paired Widens p2_turned.entries p1.entries
p2_in_p1 =
    lists.pair (wider 8 (λ i h. h)) here (there (there (there here)))
    (lists.pair (wider 4 (λ i h. h)) here (there here)
    (lists.pair (wider 2 (λ i h. h)) here (there here)
    (lists.pair (wider 1 (first_wider 0 2)) here here nobody)))

s2_in_s1 : Paired Widens s2_turned.entries s1.entries
s2_in_s1 =
    lists.pair (wider 8 (λ i h. h)) here (there (there (there here)))
    (lists.pair (wider 4 (λ i h. h)) here (there here)
    (lists.pair (wider 2 (span_wider 1 2 0 2 (omega arith) (omega arith))) here (there here)
    (lists.pair (wider 1 (span_wider 0 0 0 2 (omega arith) (omega arith))) here here nobody)))

-- ---- and not the other way round: all entries of one list that have the word w may stand at i, and one of the other may not

module _ (w i : ℕ) where
  abbrev all_stand : List Entry → Bool
  all_stand [] = true
  all_stand (e ∷ es) = cond (eqb e.word w) (allows e.places i) true && all_stand es

  all_stand_lem : (es : List Entry) → all_stand es ≡ true → (e : Entry) → In e es → e.word ≡ w → allows e.places i ≡ true
  all_stand_lem (d ∷ es) h e lists.first q = rw (eq-eqb d.word w q) at (both (cond (eqb d.word w) (allows d.places i) true) (all_stand es) h).0
  all_stand_lem (d ∷ es) h e (lists.later m) q = all_stand_lem es (both (cond (eqb d.word w) (allows d.places i) true) (all_stand es) h).1 e m q
  all_stand_lem [] h e a q = elim a [ ]

  less : {es es' : List Entry} (e : Entry) → In e es → e.word ≡ w → allows e.places i ≡ false → all_stand es' ≡ true
      → Paired Widens es' es → ⊥
  less {es' = es'} e m is never all paired =
      let from = paired_in paired m in
      let x = from.1 in
      true≢false (sym (x.places i (all_stand_lem es' all from.0 from.2 (x.word ∙ is))) ∙ never)

-- ---- what the tables say is what build says of them

compared_holds : Holds compared
compared_holds t h budget g = ⊎_elim of_pairs of_spans (in_append compared_pairs h)
  where
    told : (k : ℕ) → kind_of t ≡ k → Tells (Build 2 (map (entry_of k) (stored_in t))) t.verdict
    told k e =
        let is = map_agree (λ u. map (entry_of (kind_of u)) (stored_in u)) (λ u. u.entries) h compared_entries in
        rw (rw e at is) (tables_told compared compared_decided t h)

    of_pairs : In t compared_pairs → Means (kind_of t) 2 (stored_in t) budget (settled t.verdict t.placements)
    of_pairs m =
        let kind = map_agree kind_of (λ u. pair) m pairs_compared.0 in
        rw (map_agree (λ u. u.placements) (λ u. 0) m pairs_compared.1) (on_pairs kind (pairs.settles {v = t.verdict} (told pair kind)))

    of_spans : In t compared_spans → Means (kind_of t) 2 (stored_in t) budget (settled t.verdict t.placements)
    of_spans m =
        let kind = map_agree kind_of (λ u. span) m spans_compared.0 in
        let count = map_agree (λ u. placements 2 (stored_in u)) (λ u. u.placements) m spans_compared.1 in
        on_spans kind (spans.settles {v = t.verdict} (sym count) g (told span kind))

-- ---- so the cards are there

module _ {card card' : List ℕ} {t t' : Table} (on : OnCard t card) (on' : OnCard t' card') (h : In t compared) (h' : In t' compared) where
  entries_are : (entries_on card ≡ t.entries) × (entries_on card' ≡ t'.entries)
  entries_are = (
    rw (on.kind, on.entries) (map_agree (λ u. map (entry_of (kind_of u)) (stored_in u)) (λ u. u.entries) h compared_entries),
    rw (on'.kind, on'.entries) (map_agree (λ u. map (entry_of (kind_of u)) (stored_in u)) (λ u. u.entries) h' compared_entries),
  )

  widened_on : kind_of t ≡ kind_of t' → Paired Widens t.entries t'.entries → Widened card card'
  widened_on alike paired = record {
    kind = on.kind ∙ alike ∙ sym on'.kind;
    letters = on.letters ∙ sym on'.letters;
    entries = rw (entries_are.0, entries_are.1) paired;
  }

  not_widened : (Paired Widens t'.entries t.entries → ⊥) → Widened card' card → ⊥
  not_widened fewer more = fewer (rw (entries_are.0, entries_are.1) at more.entries)

module _ {t t' : Table} (h : In t compared) (h' : In t' compared) where
  both_hold : Holds (t ∷ t' ∷ [])
  both_hold u m =
      compared_holds u
      (⊎_elim (λ e. rw e h) (λ m'. ⊎_elim (λ e. rw e h') (λ none. absurd (not_in_nil none)) (in_cons m')) (in_cons m))

  within : kind_of t ≡ kind_of t' → Paired Widens t.entries t'.entries → (Paired Widens t'.entries t.entries → ⊥) → Within t t'
  within alike paired fewer =
      let made = cards_of compared compared_hold compared_stored t h in
      let made' = cards_of compared compared_hold compared_stored t' h' in (
        both_hold,
        (
          made.0,
          made'.0,
          (made.1, made'.1),
          (widened_on made.1 made'.1 h h' alike paired, not_widened made.1 made'.1 h h' fewer),
          (made.2, made'.2),
        ),
      )

-- where a table stands among those compared: past three others, and past two
past_three : {x a b c : Table} {xs : List Table} → In x xs → In x (a ∷ b ∷ c ∷ xs)
past_three h = lists.later (lists.later (lists.later h))

past_two : {x a b : Table} {xs : List Table} → In x xs → In x (a ∷ b ∷ xs)
past_two h = lists.later (lists.later h)

p2_within : Within p2_turned p1
p2_within =
    within lists.first (lists.later lists.first) refl p2_in_p1
    (less 1 2 (entry A C (One 0)) (lists.later (lists.later (lists.later lists.first))) refl refl refl)

p3_within : Within p3 p1
p3_within =
    within (past_two lists.first) (lists.later lists.first) refl (next (wider 1 (second_wider 0 2)) (same (same (same nobody))))
    (less 1 0 (entry A C (One 2)) lists.first refl refl refl)

p1_within : Within (p1_longer (One 4)) (p1_longer (Two 0 4))
p1_within =
    within (past_three lists.first) (past_three (lists.later lists.first)) refl
    (same (same (same (same (next (wider 0 (second_wider 0 4)) nobody)))))
    (less 0 0 (entry A A (One 4)) (lists.later (lists.later (lists.later (lists.later lists.first)))) refl refl refl)

p4_within : Within p4 p2
p4_within =
    within (past_three (past_two lists.first)) (past_three (past_three lists.first)) refl (same (same (same (next (wider 8 (first_wider 1 3)) nobody))))
    (less 8 3 (entry G A (One 1)) (lists.later (lists.later (lists.later lists.first))) refl refl refl)

p4_less_within : Within p4_less p4
p4_less_within =
    within (past_three (past_three (lists.later lists.first))) (past_three (past_two lists.first)) refl
    (same (next (wider 4 (first_wider 1 3)) (same (same nobody))))
    (less 4 3 (entry C A (One 1)) (lists.later lists.first) refl refl refl)

s2_within : Within s2_turned s1
s2_within =
    within (past_three (past_three (past_two lists.first))) (past_three (past_three (past_three lists.first))) refl s2_in_s1
    (less 1 2 (entry A C (Span 0 0)) (lists.later (lists.later (lists.later lists.first))) refl refl refl)

s1_within : Within s1 s1_wider
s1_within =
    within (past_three (past_three (past_three lists.first))) (past_three (past_three (past_three (lists.later lists.first)))) refl
    (next (wider 1 (span_wider 0 2 0 3 (omega arith) (omega arith))) (same (same (same nobody))))
    (less 1 3 (entry A C (Span 0 2)) lists.first refl refl refl)

s2_less_within : Within s2_less s2
s2_less_within =
    within (past_three (past_three (past_three (past_two lists.first)))) (past_three (past_three (past_three (past_three lists.first)))) refl
    (same (next (wider 4 (span_wider 1 1 1 3 (omega arith) (omega arith))) (same (same nobody))))
    (less 4 2 (entry C A (Span 1 1)) (lists.later lists.first) refl refl refl)

s3_less_within : Within s3_less s3
s3_less_within =
    within (past_three (past_three (past_three (past_three (lists.later lists.first))))) (past_three (past_three (past_three (past_three (past_two lists.first))))) refl
    (same (same (same (next (wider 8 (span_wider 1 1 1 2 (omega arith) (omega arith))) nobody))))
    (less 8 2 (entry G A (Span 1 1)) (lists.later (lists.later (lists.later lists.first))) refl refl refl)

-- each of the list

module _ {A : Type 0} (P : A → Type 0) where
  abbrev Every : List A → Type 0
  Every [] = Unit {0}
  Every (x ∷ xs) = P x × Every xs

  each : (xs : List A) → Every xs → (x : A) → In x xs → P x
  each (y ∷ xs) all x lists.first = all.0
  each (y ∷ xs) all x (lists.later m) = each xs all.1 x m
  each [] all x h = elim h [ ]

pub each_within : (x : Table × Table) → In x widenings → Within x.0 x.1
each_within =
    each (λ x. Within x.0 x.1) widenings
    (p2_within, (p3_within, (p1_within, (p4_within, (p4_less_within, (s2_within, (s1_within, (s2_less_within, (s3_less_within, tt)))))))))
