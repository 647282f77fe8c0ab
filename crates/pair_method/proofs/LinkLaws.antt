-- Laws of making the list of each place. No contract cites this file. Assumes nothing.
use mathlib.Core.Path.{◌≡◌, refl, sym, ap, ◌∙◌}
use mathlib.Core.List.{List}
use mathlib.Core.Logic.{◌≢◌, by_cases}
use Prim.Native.Nat.{ℕ, ◌+◌, ◌-◌, ◌*◌, ◌<◌, ◌≤◌}
use native.Mathlib.Omega.{arith}
use native.Mathlib.Decide.{ℕ_discrete}
use lib.ListN.{length, set, length-set}
use lib.Seq.{get_or-set_same, get_or-set_other}
use Rattle.pair_following.specs.Following.{nth, count_in, place_in, prev_in, word_in, last_in}
use Rattle.pair_method.specs.CardList.{HasEntries, Linked}

-- b is the last slot below x of the list of t, plus one
abbrev pub Head : List ℕ → ℕ → ℕ → ℕ → Type 0
Head card x t b = (b ≤ x) × ((y : ℕ) → b ≤ y → y < x → place_in card y ≢ t) × (0 < b → place_in card (b - 1) ≡ t)

-- the slots below x are in the lists
pub record Linking (card₀ card : List ℕ) (x : ℕ) : Type 0 where
  pub size : length card ≡ length card₀
  pub places : (y : ℕ) → place_in card y ≡ place_in card₀ y
  pub words : (e : ℕ) → word_in card e ≡ word_in card₀ e
  pub low : x ≤ 2 * count_in card₀
  pub top : (t : ℕ) → t < count_in card₀ → Head card₀ x t (last_in card t)
  pub next : (y : ℕ) → y < x → Head card₀ y (place_in card₀ y) (prev_in card y)

pub linking_start : {card : List ℕ} → ((t : ℕ) → t < count_in card → last_in card t ≡ 0) → Linking card card 0
linking_start h =
    record {
      size = refl;
      places = λ y. refl;
      words = λ e. refl;
      low = omega arith;
      top = λ t p. (omega (arith, h t p), λ y a b. absurd (omega arith), λ z. absurd (omega (arith, h t p)));
      next = λ y p. absurd (omega arith);
    }

-- the two numbers written at slot x of place t
abbrev linked_at : List ℕ → ℕ → ℕ → ℕ → List ℕ
linked_at card x t b = set (set card (3 * x + 1) b) (6 * t + 5) (x + 1)

module _ (card : List ℕ) (x t b : ℕ) where
  at_size : length (linked_at card x t b) ≡ length card
  at_size = length-set (set card (3 * x + 1) b) (6 * t + 5) (x + 1) ∙ length-set card (3 * x + 1) b

  off : (k : ℕ) → k ≢ 3 * x + 1 → k ≢ 6 * t + 5 → nth (linked_at card x t b) k ≡ nth card k
  off k h g = get_or-set_other (set card (3 * x + 1) b) (6 * t + 5) k (x + 1) 0 g ∙ get_or-set_other card (3 * x + 1) k b 0 h

  at_last : 6 * t + 5 < length card → last_in (linked_at card x t b) t ≡ x + 1
  at_last h = get_or-set_same (set card (3 * x + 1) b) (6 * t + 5) (x + 1) 0 (omega (arith, length-set card (3 * x + 1) b))

  at_prev : 3 * x + 1 < length card → prev_in (linked_at card x t b) x ≡ b
  at_prev h =
      get_or-set_other (set card (3 * x + 1) b) (6 * t + 5) (3 * x + 1) (x + 1) 0 (λ z. absurd (omega arith))
      ∙ get_or-set_same card (3 * x + 1) b 0 h

module _ {card₀ card : List ℕ} {x : ℕ} (r : Linking card₀ card x) (l : x < 2 * count_in card₀) where
  -- the slot is one of the list
  pub slot_in : x < 2 * count_in card
  slot_in = rw r.size l

  pub prev_room : 3 * x + 1 < length card
  prev_room = omega (arith, r.size)

  module _ {t : ℕ} (is : t ≡ place_in card x) (inside : place_in card₀ x < count_in card₀) where
    here : t ≡ place_in card₀ x
    here = is ∙ r.places x

    pub place_in_lem : t < count_in card
    place_in_lem = omega (arith, here, r.size)

    pub last_room : 6 * t + 5 < length card
    last_room = omega (arith, place_in_lem)

    pub last_room_after : (b : ℕ) → 6 * t + 5 < length (set card (3 * x + 1) b)
    last_room_after b = omega (arith, length-set card (3 * x + 1) b, last_room)

    pub linking_more : {b : ℕ} → b ≡ last_in card t → Linking card₀ (linked_at card x t b) (x + 1)
    linking_more {b} was =
        record {
          size = at_size card x t b ∙ r.size;
          places = λ y. off card x t b (3 * y) (λ z. absurd (omega arith)) (λ z. absurd (omega arith)) ∙ r.places y;
          words = λ e. off card x t b (6 * e + 2) (λ z. absurd (omega arith)) (λ z. absurd (omega arith)) ∙ r.words e;
          low = omega arith;
          top = λ u p. by_cases (ℕ_discrete u t) (λ z. rw (z, at_last card x t b last_room) own) (λ z. rw (same_last u z) (old u p z));
          next = λ y p. by_cases (ℕ_discrete y x) (λ z. rw (z, at_prev card x t b prev_room) head)
              (λ z. rw (same_prev y z) (r.next y (omega (arith, z))));
        }
      where
        same_last : (u : ℕ) → u ≢ t → last_in (linked_at card x t b) u ≡ last_in card u
        same_last u z = off card x t b (6 * u + 5) (λ v. absurd (omega arith)) (λ v. z (omega arith))

        same_prev : (y : ℕ) → y ≢ x → prev_in (linked_at card x t b) y ≡ prev_in card y
        same_prev y z = off card x t b (3 * y + 1) (λ v. z (omega arith)) (λ v. absurd (omega arith))

        head : Head card₀ x (place_in card₀ x) b
        head = rw was (rw here (r.top (place_in card₀ x) inside))

        own : Head card₀ (x + 1) t (x + 1)
        own = (omega arith, λ y a b. absurd (omega arith), λ _. let back : (x + 1) - 1 ≡ x = omega arith in rw back (sym here))

        old : (u : ℕ) → u < count_in card₀ → u ≢ t → Head card₀ (x + 1) u (last_in card u)
        old u p z =
            let h = r.top u p in
            let none : (y : ℕ) → last_in card u ≤ y → y < x + 1 → place_in card₀ y ≢ u =
            λ y a b. by_cases (ℕ_discrete y x) (λ e w. z (sym w ∙ ap (place_in card₀) e ∙ sym here)) (λ e. h.1 y a (omega (arith, e))) in
            (omega (arith, h.0), none, h.2)

pub linking_end : {card₀ card : List ℕ} {x : ℕ} → Linking card₀ card x → 2 * count_in card₀ ≤ x → Linked card₀ card
linking_end {card₀} {card} {x} r h =
    record {
      size = r.size;
      places = r.places;
      words = r.words;
      links =
          record {
            top = λ t p. let g = r.top t (rw r.size at p) in (
              omega (arith, g.0, r.size, r.low),
              λ y a b v. g.1 y a (omega (arith, r.size)) (sym (r.places y) ∙ v),
              λ v. r.places (last_in card t - 1) ∙ g.2 v,
            );
            next = λ y p. let g = r.next y (omega (arith, r.size)) in (
              g.0,
              λ z a b v. g.1 z a b (sym (r.places z) ∙ v ∙ r.places y),
              λ v. r.places (prev_in card y - 1) ∙ g.2 v ∙ sym (r.places y),
            );
          };
    }

-- the entries stay as they are
pub linked_has : {words ones twos before after : List ℕ} → HasEntries words ones twos before → Linked before after
    → HasEntries words ones twos after
linked_has h l =
    record {
      size = l.size ∙ h.size;
      one = λ e p. l.places (2 * e) ∙ h.one e p;
      two = λ e p. l.places (2 * e + 1) ∙ h.two e p;
      word = λ e p. l.words e ∙ h.word e p;
    }
