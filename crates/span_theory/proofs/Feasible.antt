-- Feasible lists of words: what the walk can reach. The exchange of two entries and the comparison of two cards are one law,
-- `feasible_wider`. Assumes nothing.
use mathlib.Core.Path.{◌≡◌, refl, sym, ◌∙◌}
use mathlib.Core.Logic.{⊎_elim}
use mathlib.Core.List.{List, [], ◌∷◌}
use mathlib.Core.Option.{Option, some}
use Prim.Native.Nat.{ℕ, suc, ◌≤◌}
use native.Mathlib.Omega.{arith}
use lib.ListN.{length}
use lib.Dec.{T}
use Rattle.base_lists.specs.Members.{In, Taken, Paired, pair}
use Rattle.card_entries.specs.declared.Slot.{Slot}
use Rattle.build_sequence.specs.Arrangement.{follows}
use Rattle.base_lists.proofs.ListLaws.{taken_two, length_taken, taken_or_left, paired_refl, paired_take, paired_in}

-- the span of e holds the place i
pub record Allowed (e : Slot) (i : ℕ) : Type 0 where
  pub begun : e.one ≤ i
  pub lasts : i ≤ e.two

-- the words can stand from the place i on, after p, with entries out of `left`, and no entry that is left over ends before the place
-- after them
pub data Feasible (l : ℕ) : ℕ → Option ℕ → List Slot → List ℕ → Type 0 where
  stop : {i : ℕ} {p : Option ℕ} {left : List Slot} → ((d : Slot) → In d left → i ≤ d.two) → Feasible l i p left []
  step : {i : ℕ} {p : Option ℕ} {left rest : List Slot} {e : Slot} {w : ℕ} {ws : List ℕ} → Taken e left rest → e.word ≡ w → Allowed e i
      → T (follows l p w)
      → Feasible l (suc i) (some w) rest ws → Feasible l i p left (w ∷ ws)

-- cut short, it stays feasible
pub feasible_cut : {l i : ℕ} {p : Option ℕ} {left : List Slot} {ws : List ℕ} → Feasible l i p left ws → (d : Slot) → In d left
    → i ≤ d.two
feasible_cut (stop h) d m = h d m
feasible_cut (step {i} t e a f next) d m =
    ⊎_elim (λ q. rw q a.lasts) (λ m'. let h = feasible_cut next d m' in omega arith) (taken_or_left t m)

-- from the place k on, e' can stand wherever e can
pub record Wider (k : ℕ) (e e' : Slot) : Type 0 where
  pub word : e.word ≡ e'.word
  pub begins : (i : ℕ) → k ≤ i → e.one ≤ i → e'.one ≤ i
  pub ends : e.two ≤ e'.two

-- what is feasible stays so where the entries that are left can stand at more places
pub feasible_wider : {l k i : ℕ} {p : Option ℕ} {left left' : List Slot} {ws : List ℕ} → k ≤ i → Paired (Wider k) left left'
    → Feasible l i p left ws
    → Feasible l i p left' ws
feasible_wider h ps (stop {i} past) =
    stop {i = i} (λ d m. let u = paired_in ps m in let g = past u.0 u.2 in omega (arith, u.1.ends))
feasible_wider h ps (step {i} t e a f next) =
    let u = paired_take ps t in
    step u.3 (sym u.2.word ∙ e) (record { begun = u.2.begins i h a.begun; lasts = omega (arith, u.2.ends, a.lasts) }) f
    (feasible_wider (omega arith) u.4 next)

-- the exchange: of two entries with one word that can stand at i, the one that ends first serves, whichever leads on
pub feasible_exchange : {l i : ℕ} {p : Option ℕ} {left r s : List Slot} {d e : Slot} {ws : List ℕ} → Taken d left r → Taken e left s
    → d.word ≡ e.word
    → d.two ≤ e.two → e.one ≤ i → Feasible l i p s ws → Feasible l i p r ws
feasible_exchange {i} {e} td te w ends begun f =
    ⊎_elim (λ same. rw same.1 f)
    (λ k. feasible_wider {k = i} (omega arith)
    (pair (record { word = w; begins = λ j h g. omega arith; ends = ends }) k.2 k.1
    (paired_refl (λ x. record { word = refl; begins = λ j h g. g; ends = omega arith }) k.0)) f)
    (taken_two td te)

pub feasible_length : {l i : ℕ} {p : Option ℕ} {left : List Slot} {ws : List ℕ} → Feasible l i p left ws → length ws ≤ length left
feasible_length (stop h) = omega arith
feasible_length (step {rest} {ws} t e a f next) = let h = feasible_length next in omega (arith, length_taken t)
