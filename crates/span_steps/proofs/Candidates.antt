-- Who is a candidate at a place, by the place's list alone: those that are left and agree, out of all of it, the one that is due, or
-- nothing where several are due. It holds where no entry that is left ends before the place. Assumes nothing.
use mathlib.Core.Path.{◌≡◌, refl, sym, ap, ◌∙◌}
use mathlib.Core.Logic.{◌⊎◌, inl, inr, ⊎_elim}
use mathlib.Core.Bool.{Bool, true, false, ◌&&◌, not, true≢false}
use mathlib.Core.List.{List, [], ◌∷◌, map}
use mathlib.Core.Option.{Option}
use Prim.Native.Nat.{ℕ, ◌/◌, ◌≤◌, ◌<◌}
use native.Mathlib.Omega.{arith}
use lib.ListN.{length, get_or}
use lib.Dec.{eqb}
use borrow.Author.Tests.{eqb-true, eqb-false, eq-eqb, ne_eqb}
use Rattle.base_lists.proofs.TestLaws.{both, is_true, same_test, never}
use Rattle.card_entries.specs.declared.Slot.{Slot}
use Rattle.base_lists.specs.Members.{In, first, later, Rising, rises, keep}
use Rattle.base_lists.specs.Numbers.{numbers}
use Rattle.build_sequence.specs.Arrangement.{follows}
use Rattle.base_lists.proofs.ListLaws.{not_in_nil, in_cons, in_keep, keep_in, in_map, map_in, rising_keep}
use Rattle.build_sequence.proofs.LetterLaws.{overlap_is, is_overlap}
use Rattle.span_theory.specs.Walk.{is_candidate}
use Rattle.span_theory.proofs.Tried.{Candidate, candidate_of, of_candidate}
use Rattle.span_theory.proofs.Indices.{without, without_keep, choice_in, numbers_in, in_numbers}
use Rattle.span_tables.specs.Prepared.{Prepared, Sooner, list_at}
use Rattle.base_lists.proofs.FillingLaws.{same_or_not}
use Rattle.span_steps.specs.Steps.{WalkTables, is_left, span_at, agrees, able, is_due, opened, Wants, at_first, later_on}
use Rattle.base_lists.proofs.KeepLaws.{keep_same, keep_none, keep_both}
use Rattle.span_steps.proofs.OrderLaws.{sooner_apart}

-- the word agrees with the last letters of the one before exactly if it overlaps it
pub agrees_follows : {l i want : ℕ} {p : Option ℕ} → Wants l i want p → (w : ℕ) → agrees i want w ≡ follows l p w
agrees_follows at_first w = refl
agrees_follows {l} (later_on {i} {want} {v} pos e) w =
    rw (ne_eqb i 0 (λ z. omega arith))
    (same_test (eqb (w / 4) want) _
    (λ h. is_overlap l v w (sym e ∙ sym (eqb-true (w / 4) want h)))
    (λ h. eq-eqb (w / 4) want (sym (overlap_is l v w h) ∙ sym e)))

-- a place of the card, where no entry that is left ends before it
pub record Place (i : ℕ) (tables : WalkTables) (ones marks : List ℕ) : Type 0 where
  pub prepared : Prepared tables.words ones tables.twos tables.starts tables.slots
  pub spans : (e : ℕ) → e < length tables.words → get_or ones e 0 ≤ get_or tables.twos e 0
  pub past : (k : ℕ) → k < length tables.words → is_left marks k ≡ true → i ≤ get_or tables.twos k 0
  pub inside : i < length tables.words

-- no other entry than j that is left ends at i
pub record Alone (i : ℕ) (words twos marks : List ℕ) (j : ℕ) : Type 0 where
  pub others : (k : ℕ) → k < length words → is_left marks k ≡ true → (k ≡ j → ⊥) → i < get_or twos k 0

module _ {i : ℕ} {tables : WalkTables} {ones marks : List ℕ} (place : Place i tables ones marks) where
  abbrev words : List ℕ
  words = tables.words

  abbrev twos : List ℕ
  twos = tables.twos

  abbrev table : List ℕ
  table = list_at tables.starts tables.slots i

  abbrev dues : List ℕ
  dues = keep (is_due twos marks i) table

  abbrev left_over : List ℕ
  left_over = keep (is_left marks) (numbers 0 (length words))

  due_is : (k : ℕ) → is_due twos marks i k ≡ true → (is_left marks k ≡ true) × (get_or twos k 0 ≡ i)
  unfolding is_due
  due_is k h = let b = both (is_left marks k) (eqb (get_or twos k 0) i) h in (b.0, eqb-true _ _ b.1)

  is_due_lem : (k : ℕ) → is_left marks k ≡ true → get_or twos k 0 ≡ i → is_due twos marks i k ≡ true
  unfolding is_due
  is_due_lem k h e = rw (h, eq-eqb (get_or twos k 0) i e)

  -- an entry that is left and ends at i is due
  ends_due : (k : ℕ) → k < length words → is_left marks k ≡ true → get_or twos k 0 ≡ i → In k dues
  ends_due k below free e =
      keep_in (is_due twos marks i) (place.prepared.there i k place.inside below (omega (arith, place.spans k below)) (omega arith))
      (rw (is_due_lem k free e) tt)

  in_dues : (k : ℕ) → In k dues → (k < length words) × (is_left marks k ≡ true) × (get_or twos k 0 ≡ i)
  in_dues k h =
      let m = in_keep (is_due twos marks i) table h in
      let d = due_is k (is_true _ m.1) in
      ((place.prepared.here i k place.inside m.0).0, d.0, d.1)

  -- where j is the only one that is due, or none is
  only_alone : (j : ℕ) → ((k : ℕ) → In k dues → k ≡ j) → Alone i words twos marks j
  only_alone j only = record {
    others = λ k below free n. ⊎_elim (λ e. absurd (n (only k (ends_due k below free (sym e))))) (λ h. h)
        (equal_or_less (place.past k below free));
  }
    where
      equal_or_less : {a b : ℕ} → a ≤ b → (a ≡ b) ⊎ (a < b)
      equal_or_less {a} {b} h = go (eqb a b) refl
        where
          go : (t : Bool) → eqb a b ≡ t → (a ≡ b) ⊎ (a < b)
          go true e = inl (eqb-true a b e)
          go false e = inr (omega (arith, eqb-false a b e))

  -- ---- a candidate, by what is tested of it

  module _ {l want : ℕ} {p : Option ℕ} (w : Wants l i want p) where
    abbrev candidate : ℕ → Bool
    candidate j = is_candidate l i p (choice_in (span_at words ones twos) left_over j)

    alone_candidate : (j : ℕ) → In j table → agrees i want (get_or words j 0) ≡ true → Alone i words twos marks j → candidate j ≡ true
    alone_candidate j h a alone =
        let in_table = place.prepared.here i j place.inside h in
        is_true _ (of_candidate l i p (choice_in (span_at words ones twos) left_over j) (record {
          allowed = record { begun = in_table.1; lasts = in_table.2 };
          follow = rw (sym (agrees_follows w (get_or words j 0)) ∙ a) tt;
          others = λ d m. left_past d m;
        }))
      where
        not_equal : (k j : ℕ) → not (eqb k j) ≡ true → k ≡ j → ⊥
        not_equal k j h e = true≢false (sym (rw (eq-eqb k j e) at h))

        left_over_lem : (k : ℕ) → In k (without j left_over) → i < get_or twos k 0
        left_over_lem k h =
            let v = in_keep (λ x. is_left marks x && not (eqb x j)) (numbers 0 (length words))
            (rw (without_keep j (is_left marks) (numbers 0 (length words))) at h) in
            let b = both (is_left marks k) (not (eqb k j)) (is_true _ v.1) in
            alone.others k (omega (arith, numbers_in 0 (length words) k v.0)) b.0 (not_equal k j b.1)

        left_past : (d : Slot) → In d (map (span_at words ones twos) (without j left_over)) → i < d.two
        left_past d m = let u = in_map (span_at words ones twos) (without j left_over) m in rw u.2 (left_over_lem u.0 u.1)

    candidate_agrees : (j : ℕ) → candidate j ≡ true → agrees i want (get_or words j 0) ≡ true
    candidate_agrees j h =
        let c = candidate_of l i p (choice_in (span_at words ones twos) left_over j) (rw h tt) in
        agrees_follows w (get_or words j 0) ∙ is_true _ c.follow

    candidate_alone : (j : ℕ) → candidate j ≡ true → Alone i words twos marks j
    candidate_alone j h = record { others = λ k below free n. c.others (entry k) (map_in entry (rest k below free n)) }
      where
        entry : ℕ → Slot
        entry = span_at words ones twos

        c : Candidate l i p (choice_in (span_at words ones twos) left_over j)
        c = candidate_of l i p (choice_in (span_at words ones twos) left_over j) (rw h tt)

        rest : (k : ℕ) → k < length words → is_left marks k ≡ true → (k ≡ j → ⊥) → In k (without j left_over)
        rest k below free n =
            rw (without_keep j (is_left marks) (numbers 0 (length words)))
            (keep_in (λ x. is_left marks x && not (eqb x j)) (in_numbers 0 (length words) k (omega arith) (omega arith))
            (rw (free, ne_eqb k j n) tt))

    -- ---- the candidates of the place's list

    -- the test of a candidate that is left, where j is the only one that is due, or none is
    left_candidate : (j : ℕ) → In j table → ((k : ℕ) → In k dues → k ≡ j) → candidate j ≡ agrees i want (get_or words j 0)
    left_candidate j h only =
        same_test (candidate j) (agrees i want (get_or words j 0)) (candidate_agrees j) (λ a. alone_candidate j h a (only_alone j only))

    -- one that is due is the candidate, if there is one
    due_candidate : (j d : ℕ) → In d dues → candidate j ≡ true → d ≡ j
    due_candidate j d h c = ⊎_elim (λ e. e) (λ n. absurd (late n)) (same_or_not d j)
      where
        late : (d ≡ j → ⊥) → ⊥
        late n =
            let m = in_dues d h in
            let k = (candidate_alone j c).others d m.0 m.1 n in
            omega (arith, m.2)

    none_due : dues ≡ [] → keep (λ j. is_left marks j && candidate j) table ≡ keep (able words marks i want) table
    unfolding able
    none_due e =
        keep_same (λ j. is_left marks j && candidate j) (able words marks i want) table
        (λ j h. ap (λ b. is_left marks j && b) (left_candidate j h (λ k g. absurd (not_in_nil (rw e at g)))))

    one_due : (d : ℕ) → dues ≡ d ∷ [] → keep (λ j. is_left marks j && candidate j) table ≡ keep (able words marks i want) (d ∷ [])
    unfolding able is_due
    one_due d e =
        keep_same (λ j. is_left marks j && candidate j) (λ j. is_due twos marks i j && able words marks i want j) table
        (λ j h. same_test _ _ (forth j h) (back j h))
        ∙ keep_both (is_due twos marks i) (able words marks i want) table
        ∙ ap (keep (able words marks i want)) e
      where
        here : In d dues
        here = rw e first

        only : (k : ℕ) → In k dues → k ≡ d
        only k g = ⊎_elim (λ q. q) (λ n. absurd (not_in_nil n)) (in_cons (rw e at g))

        forth : (j : ℕ) → In j table → (is_left marks j && candidate j) ≡ true
            → (is_due twos marks i j && able words marks i want j) ≡ true
        forth j h t =
            let b = both (is_left marks j) (candidate j) t in
            let q = due_candidate j d here b.1 in
            let m = in_dues d here in
            rw (b.0, eq-eqb (get_or twos j 0) i (ap (λ x. get_or twos x 0) (sym q) ∙ m.2), candidate_agrees j b.1)

        back : (j : ℕ) → In j table → (is_due twos marks i j && able words marks i want j) ≡ true
            → (is_left marks j && candidate j) ≡ true
        back j h t =
            let b = both (is_due twos marks i j) (able words marks i want j) t in
            let f = both (is_left marks j) (agrees i want (get_or words j 0)) b.1 in
            let q : j ≡ d = only j (keep_in (is_due twos marks i) h (rw b.0 tt)) in
            rw f.0 (left_candidate j h (λ k g. only k g ∙ sym q) ∙ f.1)

    more_due : (d e : ℕ) (more : List ℕ) → dues ≡ d ∷ e ∷ more → keep (λ j. is_left marks j && candidate j) table ≡ []
    more_due d e more s =
        keep_none (λ j. is_left marks j && candidate j) table
        (λ j h. never _ (λ t.
        let c = (both (is_left marks j) (candidate j) t).1 in
        apart (due_candidate j d (rw s first) c ∙ sym (due_candidate j e (rw s (later first)) c))))
      where
        apart : d ≡ e → ⊥
        apart q = go (rw s at (rising_keep (is_due twos marks i) (place.prepared.sorted i place.inside)))
          where
            go : Rising (Sooner words twos) (d ∷ e ∷ more) → ⊥
            go (rises up r) = sooner_apart words twos d e (up e first) q

    -- the candidates that are left are those that are able, out of what the place's list opens
    pub candidates : keep (λ j. is_left marks j && candidate j) table ≡ keep (able words marks i want) (opened dues table)
    candidates = go dues refl
      where
        go : (ds : List ℕ) → dues ≡ ds → keep (λ j. is_left marks j && candidate j) table ≡ keep (able words marks i want) (opened ds table)
        go [] e = none_due e
        go (d ∷ []) e = one_due d e
        go (d ∷ f ∷ more) e = more_due d f more e

  -- what is opened and left is alone: every other entry that is left ends past i
  pub opened_alone : (j : ℕ) → In j (opened dues table) → Alone i words twos marks j
  opened_alone j = go dues refl
    where
      go : (ds : List ℕ) → dues ≡ ds → In j (opened ds table) → Alone i words twos marks j
      go [] e h = only_alone j (λ k g. absurd (not_in_nil (rw e at g)))
      go (d ∷ []) e h =
          only_alone j (λ k g. ⊎_elim (λ q. q ∙ sym (⊎_elim (λ r. r) (λ n. absurd (not_in_nil n)) (in_cons h))) (λ n. absurd (not_in_nil n))
          (in_cons (rw e at g)))
      go (d ∷ f ∷ more) e h = absurd (not_in_nil h)

  -- and it is in the list
  pub opened_in : (j : ℕ) → In j (opened dues table) → In j table
  opened_in j h = go dues (λ k m. (in_keep (is_due twos marks i) table m).0) h
    where
      go : (ds : List ℕ) → ((k : ℕ) → In k ds → In k table) → In j (opened ds table) → In j table
      go [] f m = m
      go (d ∷ []) f m = f j m
      go (d ∷ e ∷ more) f m = absurd (not_in_nil m)

  -- and it is an entry of the card
  pub opened_entry : (j : ℕ) → In j (opened dues table) → j < length words
  opened_entry j h = (place.prepared.here i j place.inside (opened_in j h)).0
