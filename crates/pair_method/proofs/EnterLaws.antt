-- Laws of entering the entries of a card into one list. No contract cites this file. Assumes nothing.
use mathlib.Core.Path.{◌≡◌, refl, ◌∙◌}
use mathlib.Core.List.{List}
use mathlib.Core.Logic.{◌≢◌, by_cases}
use Prim.Native.Nat.{ℕ, ◌+◌, ◌*◌, ◌≤◌, ◌<◌}
use native.Mathlib.Omega.{arith}
use native.Mathlib.Decide.{ℕ_discrete}
use lib.ListN.{length, set, length-set}
use lib.Seq.{get_or-set_same, get_or-set_other}
use Rattle.card_entries.specs.declared.Slot.{Slot}
use Rattle.card_entries.specs.Slot.{slot_from}
use Rattle.card_entries.proofs.SlotLaws.{slot_from_lem}
use Rattle.pair_following.specs.Following.{nth, place_in, word_in, last_in}
use Rattle.pair_method.specs.PairMethod.{second_of}
use Rattle.pair_method.specs.CardList.{with_entry, Entered}

-- ---- one entry

module _ (card : List ℕ) (e w p q : ℕ) where
  pub with_size : length (with_entry card e w p q) ≡ length card
  with_size =
      length-set (set (set (set card (6 * e) p) (6 * e + 2) w) (6 * e + 3) q) (6 * e + 5) 0
      ∙ length-set (set (set card (6 * e) p) (6 * e + 2) w) (6 * e + 3) q
      ∙ length-set (set card (6 * e) p) (6 * e + 2) w
      ∙ length-set card (6 * e) p

  module _ (inside : 6 * e + 5 < length card) where
    -- room for the second write, and for the third
    pub room_2 : 6 * e + 2 < length (set card (6 * e) p)
    room_2 = omega (arith, length-set card (6 * e) p)

    pub room_3 : 6 * e + 3 < length (set (set card (6 * e) p) (6 * e + 2) w)
    room_3 = omega (arith, length-set card (6 * e) p, length-set (set card (6 * e) p) (6 * e + 2) w)

  -- where nothing was written
  with_off : (k : ℕ) → k ≢ 6 * e → k ≢ 6 * e + 2 → k ≢ 6 * e + 3 → k ≢ 6 * e + 5 → nth (with_entry card e w p q) k ≡ nth card k
  with_off k x y z v =
      get_or-set_other (set (set (set card (6 * e) p) (6 * e + 2) w) (6 * e + 3) q) (6 * e + 5) k 0 0 v
      ∙ get_or-set_other (set (set card (6 * e) p) (6 * e + 2) w) (6 * e + 3) k q 0 z
      ∙ get_or-set_other (set card (6 * e) p) (6 * e + 2) k w 0 y
      ∙ get_or-set_other card (6 * e) k p 0 x

  module _ (inside : 6 * e + 5 < length card) where
    with_one : nth (with_entry card e w p q) (6 * e) ≡ p
    with_one =
        get_or-set_other (set (set (set card (6 * e) p) (6 * e + 2) w) (6 * e + 3) q) (6 * e + 5) (6 * e) 0 0 (λ x. absurd (omega arith))
        ∙ get_or-set_other (set (set card (6 * e) p) (6 * e + 2) w) (6 * e + 3) (6 * e) q 0 (λ x. absurd (omega arith))
        ∙ get_or-set_other (set card (6 * e) p) (6 * e + 2) (6 * e) w 0 (λ x. absurd (omega arith))
        ∙ get_or-set_same card (6 * e) p 0 (omega arith)

    with_word : nth (with_entry card e w p q) (6 * e + 2) ≡ w
    with_word =
        get_or-set_other (set (set (set card (6 * e) p) (6 * e + 2) w) (6 * e + 3) q) (6 * e + 5) (6 * e + 2) 0 0 (λ x. absurd (omega arith))
        ∙ get_or-set_other (set (set card (6 * e) p) (6 * e + 2) w) (6 * e + 3) (6 * e + 2) q 0 (λ x. absurd (omega arith))
        ∙ get_or-set_same (set card (6 * e) p) (6 * e + 2) w 0 (omega (arith, length-set card (6 * e) p))

    with_two : nth (with_entry card e w p q) (6 * e + 3) ≡ q
    with_two =
        get_or-set_other (set (set (set card (6 * e) p) (6 * e + 2) w) (6 * e + 3) q) (6 * e + 5) (6 * e + 3) 0 0 (λ x. absurd (omega arith))
        ∙ get_or-set_same (set (set card (6 * e) p) (6 * e + 2) w) (6 * e + 3) q 0
        (omega (arith, length-set card (6 * e) p, length-set (set card (6 * e) p) (6 * e + 2) w))

    with_empty : nth (with_entry card e w p q) (6 * e + 5) ≡ 0
    with_empty =
        get_or-set_same (set (set (set card (6 * e) p) (6 * e + 2) w) (6 * e + 3) q) (6 * e + 5) 0 0
        (omega (
          arith,
          length-set card (6 * e) p,
          length-set (set card (6 * e) p) (6 * e + 2) w,
          length-set (set (set card (6 * e) p) (6 * e + 2) w) (6 * e + 3) q,
        ))

-- ---- the entries below e are in

pub record Entering (words ones twos card : List ℕ) (e : ℕ) : Type 0 where
  pub size : length card ≡ 6 * length words
  pub one : (f : ℕ) → f < e → place_in card (2 * f) ≡ nth ones f
  pub two : (f : ℕ) → f < e → place_in card (2 * f + 1) ≡ second_of (nth ones f) (nth twos f)
  pub word : (f : ℕ) → f < e → word_in card f ≡ nth words f
  pub empty : (f : ℕ) → f < e → last_in card f ≡ 0

pub entering_start : {words ones twos card : List ℕ} → length card ≡ 6 * length words → Entering words ones twos card 0
entering_start h =
    record {
      size = h;
      one = λ f l. absurd (omega arith);
      two = λ f l. absurd (omega arith);
      word = λ f l. absurd (omega arith);
      empty = λ f l. absurd (omega arith);
    }

module _ {words ones twos card : List ℕ} {e : ℕ} (r : Entering words ones twos card e) (l : e < length words) where
  -- there is room for entry e
  pub enter_room : 6 * e + 5 < length card
  enter_room = omega (arith, r.size)

  module _ (w p q : ℕ) where
    old : (k : ℕ) → k < 6 * e → nth (with_entry card e w p q) k ≡ nth card k
    old k h =
        with_off card e w p q k (λ x. absurd (omega arith)) (λ x. absurd (omega arith)) (λ x. absurd (omega arith))
        (λ x. absurd (omega arith))

    at_one : place_in (with_entry card e w p q) (2 * e) ≡ p
    at_one = let same : 3 * (2 * e) ≡ 6 * e = omega arith in rw same (with_one card e w p q enter_room)

    at_two : place_in (with_entry card e w p q) (2 * e + 1) ≡ q
    at_two = let same : 3 * (2 * e + 1) ≡ 6 * e + 3 = omega arith in rw same (with_two card e w p q enter_room)

    entered_more : w ≡ nth words e → p ≡ nth ones e → q ≡ second_of (nth ones e) (nth twos e)
        → Entering words ones twos (with_entry card e w p q) (e + 1)
    entered_more a b d =
        record {
          size = with_size card e w p q ∙ r.size;
          one = λ f i. by_cases (ℕ_discrete f e) (λ x. rw x (at_one ∙ b)) (λ x. old (3 * (2 * f)) (omega (arith, x)) ∙ r.one f (omega (arith, x)));
          two = λ f i. by_cases (ℕ_discrete f e) (λ x. rw x (at_two ∙ d))
              (λ x. old (3 * (2 * f + 1)) (omega (arith, x)) ∙ r.two f (omega (arith, x)));
          word = λ f i. by_cases (ℕ_discrete f e) (λ x. rw x (with_word card e w p q enter_room ∙ a))
              (λ x. old (6 * f + 2) (omega (arith, x)) ∙ r.word f (omega (arith, x)));
          empty = λ f i. by_cases (ℕ_discrete f e) (λ x. rw x (with_empty card e w p q enter_room))
              (λ x. old (6 * f + 5) (omega (arith, x)) ∙ r.empty f (omega (arith, x)));
        }

  pub entering_more : {card' : List ℕ} {s : Slot} → s ≡ slot_from words ones twos e
      → card' ≡ with_entry card e s.word s.one (second_of s.one s.two)
      → Entering words ones twos card' (e + 1)
  entering_more entry is = rw (is, entry ∙ slot_from_lem words ones twos e) (entered_more _ _ _ refl refl refl)

pub entering_end : {words ones twos card : List ℕ} {e : ℕ} → Entering words ones twos card e → length words ≤ e → Entered words ones twos card
entering_end r h =
    record {
      has =
          record {
            size = r.size;
            one = λ f l. r.one f (omega arith);
            two = λ f l. r.two f (omega arith);
            word = λ f l. r.word f (omega arith);
          };
      empty = λ f l. r.empty f (omega arith);
    }
