-- The builds that the walk completes are the builds of the card, each once, in alphabetical order. A build is given by its words here.
-- Assumes nothing.
use mathlib.Core.Path.{◌≡◌, refl, sym, ◌∙◌, ap}
use mathlib.Core.Logic.{⊎_elim}
use mathlib.Core.Bool.{true}
use mathlib.Core.List.{List, [], ◌∷◌, map}
use mathlib.Core.Option.{Option, none, some}
use Prim.Native.Nat.{ℕ, suc, ◌<◌}
use native.Mathlib.Omega.{arith}
use lib.ListN.{length, length-map}
use lib.Dec.{eqb, leb, eqb→eq, eqb_refl, leb→le, le→leb}
use Rattle.card_entries.specs.declared.Slot.{Slot}
use Rattle.card_entries.specs.Entry.{entry_of, allows}
use Rattle.card_entries.specs.Fault.{span}
use Rattle.card_entries.proofs.Allowed.{span_entry, entry_word}
use Rattle.base_lists.specs.Members.{In, Reordered, empty, next, Rising}
use Rattle.build_sequence.specs.Arrangement.{Standing, nobody, stands, words}
use Rattle.build_sequence.specs.Build.{spell, Build}
use Rattle.build_sequence.specs.Worded.{Worded}
use Rattle.build_sequence.specs.Verdict.{Before}
use Rattle.base_lists.proofs.TestLaws.{is_true, true_is, and_both, both_and}
use Rattle.base_lists.proofs.ListLaws.{not_in_nil, in_cons, in_keep, keep_in, rising_keep, length_taken}
use Rattle.base_lists.proofs.ReorderedLaws.{reordered_map, map_reordered, reordered_length}
use Rattle.build_sequence.proofs.BuildLaws.{worded_build}
use Rattle.span_theory.specs.Walk.{walked, builds}
use Rattle.span_theory.specs.Settling.{span_entries}
use Rattle.span_theory.proofs.Feasible.{Allowed, Feasible, stop, step, feasible_length}
use Rattle.span_theory.proofs.Reached.{reached_feasible, feasible_reached, reached_some, walk_rising}

-- ---- a span holds a place

pub allowed_is : (s : Slot) (i : ℕ) → Allowed s i → allows (entry_of span s).places i ≡ true
allowed_is s i a =
    rw (span_entry s) (is_true _ (both_and (leb s.one i) (leb i s.two) (le→leb _ _ a.begun) (le→leb _ _ a.lasts)))

pub is_allowed : (s : Slot) (i : ℕ) → allows (entry_of span s).places i ≡ true → Allowed s i
is_allowed s i h =
    let both = and_both (leb s.one i) (leb i s.two) (true_is _ (rw (span_entry s) at h)) in
    record { begun = leb→le _ _ both.0; lasts = leb→le _ _ both.1 }

words_of : List Slot → List ℕ
words_of o = map (λ s. s.word) o

same_words : (o : List Slot) → words (span_entries o) ≡ words_of o
unfolding words_of
same_words [] = refl
same_words (s ∷ o) = let e = entry_word span s in let f = same_words o in cc

length_words : (o : List Slot) → length (words_of o) ≡ length o
unfolding words_of
length_words o = length-map o (λ s. s.word)

-- ---- a build is a feasible list that uses all entries

pub record Complete (l : ℕ) (es : List Slot) (ws : List ℕ) : Type 0 where
  pub feasible : Feasible l 0 none es ws
  pub all : length ws ≡ length es

standing_feasible : (l i : ℕ) (p : Option ℕ) {left o : List Slot} → Reordered left o → Standing l i p (span_entries o)
    → Feasible l i p left (words_of o)
unfolding words_of
standing_feasible l i p empty s = stop (λ d m. absurd (not_in_nil m))
standing_feasible l i p (next {e} t r) (stands a f more) =
    step t refl (is_allowed e i a) (true_is _ (rw (entry_word span e) at f))
    (standing_feasible l (suc i) (some e.word) r (rw (entry_word span e) at more))

feasible_standing : {l i : ℕ} {p : Option ℕ} {left : List Slot} {ws : List ℕ} → Feasible l i p left ws → length ws ≡ length left
    → (o : List Slot) × Reordered left o × Standing l i p (span_entries o) × (ws ≡ words_of o)
unfolding words_of
feasible_standing (stop {left = []} h) n = ([], empty, nobody, refl)
feasible_standing (stop {left = e ∷ left} h) n = absurd (omega arith)
feasible_standing {l} (step {i} {p} {e = own} {w} t e a f more) n =
    let s = feasible_standing more (omega (arith, length_taken t)) in
    let same : (entry_of span own).word ≡ w = entry_word span own ∙ e in (
      own ∷ s.0,
      next t s.1,
      stands {p = p} {e = entry_of span own} {es = span_entries s.0} (allowed_is own i a) (rw same
          (is_true _ f)) (rw same s.2),
      cc,
    )

module _ {l : ℕ} {es : List Slot} where
  pub complete_worded : {ws : List ℕ} → Complete l es ws → Worded l (span_entries es) ws
  complete_worded c =
      let s = feasible_standing c.feasible c.all in
      record {
        order = span_entries s.0;
        arrangement = record { each = reordered_map (entry_of span) s.1; standing = s.2 };
        in_order = s.3 ∙ sym (same_words s.0);
      }

  pub worded_complete : {ws : List ℕ} → Worded l (span_entries es) ws → Complete l es ws
  worded_complete w =
      let k = map_reordered (entry_of span) es refl w.arrangement.each in
      let stood = standing_feasible l 0 none k.1 (rw k.2 at w.arrangement.standing) in
      let same : _ ≡ words_of k.0 = w.in_order ∙ ap words k.2 ∙ same_words k.0 in
      rw same (record { feasible = stood; all = length_words k.0 ∙ reordered_length k.1 })

  pub build_complete : {s : List ℕ} → Build l (span_entries es) s → (ws : List ℕ) × Complete l es ws × (s ≡ spell l ws)
  build_complete b =
      let w = worded_complete (record { order = b.order; arrangement = b.arrangement; in_order = refl }) in
      (words b.order, w, b.spelled)

  pub complete_build : {ws : List ℕ} → Complete l es ws → Build l (span_entries es) (spell l ws)
  complete_build c = worded_build (complete_worded c)

-- ---- the builds of the walk

module _ (l : ℕ) (es : List Slot) where
  pub walked_feasible : {ws : List ℕ} → In ws (walked l es) → Feasible l 0 none es ws
  unfolding walked
  walked_feasible h = reached_feasible l (length es) 0 none es h

  pub walked_some : {ws : List ℕ} → In ws (walked l es) → 0 < length ws
  unfolding walked
  walked_some {ws} h = go ws (reached_some l (length es) 0 none es ws h)
    where
      go : (vs : List ℕ) → Before [] vs → 0 < length vs
      go (v ∷ vs) b = omega arith
      go [] b = elim b [ ]

  pub feasible_walked : {ws : List ℕ} → 0 < length ws → Feasible l 0 none es ws → In ws (walked l es)
  unfolding walked
  feasible_walked h f =
      ⊎_elim (λ e. absurd (omega (arith, ap length e))) (λ g. g) (in_cons (feasible_reached l (length es) 0 (feasible_length f) f))

  -- each build that the walk completes is one
  pub builds_sound : {ws : List ℕ} → In ws (builds l es) → Complete l es ws
  unfolding builds
  builds_sound h =
      let k = in_keep (λ ws. eqb (length ws) (length es)) (walked l es) h in
      record { feasible = walked_feasible k.0; all = eqb→eq _ _ k.1 }

  -- the walk completes each build of a card that has an entry
  pub builds_complete : {ws : List ℕ} → 0 < length es → Complete l es ws → In ws (builds l es)
  unfolding builds
  builds_complete h b =
      let n = b.all in
      keep_in (λ ws. eqb (length ws) (length es)) (feasible_walked (omega arith) b.feasible) (rw n (eqb_refl (length es)))

  pub walked_rising : Rising Before (walked l es)
  unfolding walked
  walked_rising = walk_rising l (length es) 0 none es

  -- and it completes them in alphabetical order, each once
  pub builds_rising : Rising Before (builds l es)
  unfolding builds
  builds_rising = rising_keep (λ ws. eqb (length ws) (length es)) walked_rising
