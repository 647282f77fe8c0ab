-- Two cards, the second of which allows more (demand 3): the walk on the first goes nowhere that the walk on the second does not go.
-- Assumes nothing.
use mathlib.Core.Path.{◌≡◌, refl, sym, ◌∙◌, ap}
use mathlib.Core.Logic.{inl, inr}
use mathlib.Core.Bool.{Bool, true, false, cond}
use mathlib.Core.List.{List, [], ◌∷◌}
use Prim.Native.Nat.{ℕ, zero, suc, ◌≤◌, ◌<◌}
use native.Mathlib.Omega.{arith}
use lib.ListN.{length}
use lib.Dec.{eqb}
use Rattle.card_entries.specs.Hold.{Hold, format_for}
use Rattle.card_entries.proofs.HoldLaws.{hold_fits, hold_rises}
use Rattle.card_entries.specs.declared.Slot.{Slot}
use Rattle.card_entries.specs.Fault.{span}
use Rattle.card_entries.specs.Entry.{entry_of}
use Rattle.card_entries.proofs.Allowed.{entry_word}
use Rattle.base_lists.specs.Members.{In, first, later, Paired, Rising, rises, keep}
use Rattle.build_sequence.specs.Build.{spell, Build}
use Rattle.build_sequence.specs.Verdict.{Before, Widens, Verdict, Tells, Outcome, sole, several, no_build, settled}
use Rattle.build_sequence.specs.Compared.{NoLater}
use Rattle.base_lists.proofs.ListLaws.{in_keep, keep_in, rising_shorter}
use Rattle.base_lists.proofs.ReorderedLaws.{map_paired, paired_each}
use Rattle.build_sequence.proofs.OrderLaws.{before_irr}
use Rattle.build_sequence.proofs.VerdictLaws.{tells_no_later}
use Rattle.build_sequence.proofs.WiderLaws.{build_wider, paired_length}
use Rattle.span_theory.specs.Walk.{walked, builds, up_to, placements}
use Rattle.span_theory.specs.Settling.{span_entries, MeansSpan, settles, goes_on}
use Rattle.span_theory.specs.Compared.{NoLaterIf, Narrowed}
use Rattle.span_theory.proofs.Feasible.{Wider, feasible_wider}
use Rattle.span_theory.proofs.Builds.{allowed_is, is_allowed, Complete, complete_build, builds_sound}
use Rattle.span_theory.proofs.Builds.{walked_feasible, feasible_walked, walked_some, walked_rising, builds_rising}
use Rattle.span_theory.proofs.Chains.{complete_one}

-- ---- placements

-- with fewer builds than are asked for, all placements count
up_to_all : (m k : ℕ) (reached : List (List ℕ)) → length (keep (λ ws. eqb (length ws) m) reached) < k → up_to m k reached ≡ length reached
unfolding up_to
up_to_all m k [] h = refl
up_to_all m zero (ws ∷ reached) h = absurd (omega arith)
up_to_all m (suc k) (ws ∷ reached) h = ap suc (go (eqb (length ws) m) (up_to_all m k reached) (up_to_all m (suc k) reached) h)
  where
    kept : List (List ℕ)
    kept = keep (λ ws. eqb (length ws) m) reached

    go : (t : Bool) → (length kept < k → up_to m k reached ≡ length reached)
        → (length kept < suc k → up_to m (suc k) reached ≡ length reached)
        → length (cond t (ws ∷ kept) kept) < suc k → cond t (up_to m k reached) (up_to m (suc k) reached) ≡ length reached
    go true one same h = one (omega arith)
    go false one same h = same h

pub placements_all : (l : ℕ) (es : List Slot) → length (builds l es) < 2 → placements l es ≡ length (walked l es)
unfolding placements builds
placements_all l es h = up_to_all (length es) 2 (walked l es) h

-- where all builds are one sequence the walk completes at most one
few_builds : {limit l : ℕ} {es : List Slot} → Hold limit (format_for span l es) es → ((s t : List ℕ) → Build l (span_entries es) s → Build l (span_entries es) t → s ≡ t)
    → length (builds l es) < 2
few_builds {l} {es} entered one = go (builds l es) (builds_rising l es) (λ ws h. builds_sound l es h)
  where
    go : (bs : List (List ℕ)) → Rising Before bs → ((ws : List ℕ) → In ws bs → Complete l es ws) → length bs < 2
    go [] r sound = omega arith
    go (ws ∷ []) r sound = omega arith
    go (ws ∷ vs ∷ more) (rises up r) sound =
        let b = sound ws first in
        let c = sound vs (later first) in
        let e = complete_one (hold_fits entered) b c (one (spell l ws) (spell l vs) (complete_build b) (complete_build c)) in
        absurd (before_irr vs (rw e at (up vs first)))

-- ---- two cards

-- no later, and in no more placements
pub no_later_narrowed : (v v' : Verdict) {m n : ℕ} → NoLater v v' → m ≤ n → Narrowed (settled v m) (settled v' n)
no_later_narrowed (sole s) (sole t) {m} e h = (m, inr (ap (λ x. settled (sole x) m) (sym e)), h)
no_later_narrowed (several s) (sole t) e h = absurd e
no_later_narrowed no_build (sole t) {m} e h = (m, inl refl, h)
no_later_narrowed v (several t) e h = tt
no_later_narrowed (sole s) no_build e h = absurd e
no_later_narrowed (several s) no_build e h = absurd e
no_later_narrowed no_build no_build {m} e h = (m, refl, h)

wider_of : (a b : Slot) → a.one ≤ a.two → Widens (entry_of span a) (entry_of span b) → Wider 0 a b
wider_of a b own w =
    let least = is_allowed b a.one (w.places a.one (allowed_is a a.one (record { begun = omega arith; lasts = own }))) in
    let most = is_allowed b a.two (w.places a.two (allowed_is a a.two (record { begun = own; lasts = omega arith }))) in
    record {
      word = sym (entry_word span a) ∙ w.word ∙ entry_word span b;
      begins = λ i h g. omega (arith, least.begun);
      ends = most.lasts;
    }

module _ {limit l : ℕ} {es es' : List Slot} (entered : Hold limit (format_for span l es) es) (entered' : Hold limit (format_for span l es') es')
    (pairs : Paired Widens (span_entries es) (span_entries es')) where
  wider : Paired (Wider 0) es es'
  wider = paired_each (λ a b h w. wider_of a b (hold_rises entered refl a h) w) (map_paired (entry_of span) es es' refl refl pairs)

  pub walked_more : (ws : List ℕ) → In ws (walked l es) → In ws (walked l es')
  walked_more ws h =
      feasible_walked l es' (walked_some l es h) (feasible_wider {k = 0} (omega arith) wider (walked_feasible l es h))

  builds_more : (ws : List ℕ) → In ws (builds l es) → In ws (builds l es')
  unfolding builds
  builds_more ws h =
      let k = in_keep (λ vs. eqb (length vs) (length es)) (walked l es) h in
      keep_in (λ vs. eqb (length vs) (length es')) (walked_more ws k.0) (rw (← paired_length wider) k.1)

  pub walked_fewer : length (walked l es) ≤ length (walked l es')
  walked_fewer = rising_shorter before_irr (walked l es') (walked_rising l es) walked_more

  builds_fewer : length (builds l es) ≤ length (builds l es')
  builds_fewer = rising_shorter before_irr (builds l es') (builds_rising l es) builds_more

  -- where all builds of the second card are one, the first needs no more placements
  pub placements_fewer : ((s t : List ℕ) → Build l (span_entries es') s → Build l (span_entries es') t → s ≡ t)
      → placements l es ≤ placements l es'
  placements_fewer one =
      let h = few_builds entered' one in
      omega (arith, placements_all l es (omega (arith, builds_fewer)), placements_all l es' h, walked_fewer)

  abbrev more : (s : List ℕ) → Build l (span_entries es) s → Build l (span_entries es') s
  more s b = build_wider pairs b

  -- "a build on the first means one on the second, alphabetically no later; several stays several"
  pub means_later : {b c : ℕ} {o o' : Outcome} → MeansSpan l es b o → MeansSpan l es' c o' → NoLaterIf o o'
  means_later (settles {v} a b t) (settles {v = v'} c d u) =
      tells_no_later (Build l (span_entries es)) (Build l (span_entries es')) more v v' t u
  means_later (settles a b t) (goes_on c d) = tt
  means_later (goes_on a b) q = tt

  module _ {budget : ℕ} where
    narrowed : {o : Outcome} (v' : Verdict) (n : ℕ) → MeansSpan l es budget o → Tells (Build l (span_entries es')) v' → placements l es ≤ n
        → n ≤ budget
        → Narrowed o (settled v' n)
    narrowed v' n (settles {v} a b t) u h g =
        no_later_narrowed v v' (tells_no_later (Build l (span_entries es)) (Build l (span_entries es')) more v v' t u) (omega arith)
    narrowed v' n (goes_on a b) u h g = absurd (omega arith)

    -- "it settles the first in no more placements, as none or that same sole sequence"
    pub means_narrowed : {o o' : Outcome} → MeansSpan l es budget o → MeansSpan l es' budget o' → Narrowed o o'
    means_narrowed p (settles {v = sole u} {n} a b t) =
        let h = placements_fewer (λ s r c d. t.1 s c ∙ sym (t.1 r d)) in narrowed (sole u) n p t (omega arith) b
    means_narrowed p (settles {v = several u} a b t) = tt
    means_narrowed p (settles {v = no_build} {n} a b t) =
        let h = placements_fewer (λ s r c d. absurd (t s c)) in narrowed no_build n p t (omega arith) b
    means_narrowed p (goes_on a b) = tt

-- "On one card, a settled answer and its placements stay the same under every larger budget."
pub means_larger : {l b c n : ℕ} {es : List Slot} {v : Verdict} → b ≤ c → MeansSpan l es b (settled v n) → MeansSpan l es c (settled v n)
means_larger h (settles e g t) = settles e (omega arith) t
