-- Deciding the words place by place. No contract cites this file. Assumes nothing.
use mathlib.Core.Path.{◌≡◌, sym, ◌∙◌}
use mathlib.Core.Bool.{Bool, true, false, true≢false}
use mathlib.Core.List.{List}
use Prim.Native.Nat.{ℕ, ◌+◌, ◌<◌, ◌≤◌}
use native.Mathlib.Omega.{arith}
use lib.ListN.{length, set, length-set}
use lib.Seq.{get_or-set_same, get_or-set_other}
use Rattle.pair_theory.specs.Arranged.{Pairs, Inside}
use Rattle.pair_theory.specs.Chosen.{Upto}
use Rattle.pair_theory.proofs.Upto.{upto_more}
use Rattle.pair_following.specs.Following.{nth, Progress, Trail}
use Rattle.pair_choosing.specs.Choosing.{pick_of, Chooses, ChoosesAll}

pub record Deciding (c : Pairs) (a : Progress) (k : ℕ) (words : List ℕ) (t : ℕ) : Type 0 where
  pub shape : Trail c.m a
  pub count : length words ≡ c.m
  pub few : k ≤ t
  pub upto : Upto c (nth a.put) t (nth words) k

module _ {c : Pairs} (i : Inside c) {b : Progress} {k : ℕ} {words : List ℕ} {t : ℕ} (r : Deciding c b k words t)
    (l : t < c.m) {w j : ℕ} {a : Progress} {ok : Bool} (g : Chooses c b (pick_of t w) j a ok) where
  pub deciding_more : ok ≡ true → Deciding c a (k + j) (set words t w) (t + 1)
  deciding_more h =
      record {
        shape = g.shape;
        count = length-set words t w ∙ r.count;
        few = omega (arith, r.few, g.few);
        upto = upto_more c (nth b.put) (nth a.put) (nth words) (nth (set words t w)) t k j i l
            (λ x p. get_or-set_other words t x w 0 (λ e. absurd (omega arith))) r.upto (rw here (g.good h)) g.few;
      }
    where
      here : nth (set words t w) t ≡ w
      here = get_or-set_same words t w 0 (rw r.count l)

  pub deciding_stops : ok ≡ false → (z : ℕ) → ChoosesAll c a false z words
  deciding_stops h z = record { shape = g.shape; count = r.count; good = λ x. absurd (true≢false (sym x)); bad = λ _. g.bad h }

pub deciding_end : {c : Pairs} {a : Progress} {k : ℕ} {words : List ℕ} {t : ℕ} → Deciding c a k words t → t ≡ c.m
    → ChoosesAll c a true k words
deciding_end r h = record { shape = r.shape; count = r.count; good = λ _. rw h at r.upto; bad = λ x. absurd (true≢false x) }
