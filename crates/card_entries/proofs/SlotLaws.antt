-- The laws of slots and their bytes that this crate's proofs and the crates above cite: a slot that was written is read, and the bytes that
-- were read as a slot are the slot's. Assumes nothing.
use mathlib.Core.Path.{◌≡◌, refl, sym, ap, ◌∙◌}
use mathlib.Core.List.{List, ◌++◌, append_assoc}
use Prim.Native.Nat.{ℕ, ◌+◌, ◌*◌, ◌≤◌}
use native.Mathlib.Omega.{arith}
use lib.ListN.{length, get_or, drop, length-append}
use Rattle.card_block.specs.Bytes.{two_at, four_at, two_bytes, four_bytes, AreBytes}
use Rattle.base_lists.specs.Parts.{put_at}
use Rattle.card_block.proofs.ByteLaws.{length_two, length_four, two_read, four_read, two_again, four_again}
use Rattle.base_lists.proofs.PutLaws.{put_on}
use Rattle.card_entries.specs.declared.Slot.{Slot}
use Rattle.card_entries.specs.Slot.{entry_bytes, slot_at, slot_bytes, slot_from}

pub length_slot : (s : Slot) → length (slot_bytes s) ≡ entry_bytes
unfolding slot_bytes
length_slot s =
    let one = two_bytes s.one in
    let two = two_bytes s.two in
    omega (
      arith,
      length-append (four_bytes s.word) (one ++ two),
      length-append one two,
      length_four s.word,
      length_two s.one,
      length_two s.two,
    )

-- as the code writes it: the word, place one, place two
pub slot_put : (l : List ℕ) (at : ℕ) (s : Slot) {l₁ l₂ l₃ : List ℕ} → at + entry_bytes ≤ length l
    → l₁ ≡ put_at (four_bytes s.word) at l → l₂ ≡ put_at (two_bytes s.one) (at + 4) l₁ → l₃ ≡ put_at (two_bytes s.two) (at + 6) l₂
    → l₃ ≡ put_at (slot_bytes s) at l
unfolding slot_bytes
slot_put l at s {l₁} {l₂} {l₃} h e₁ e₂ e₃ =
    let word = four_bytes s.word in
    let one = two_bytes s.one in
    let two = two_bytes s.two in
    let up_to : l₂ ≡ put_at (word ++ one) at l =
    e₂ ∙ put_on l at word e₁ (omega (arith, length_four s.word)) one (omega (arith, length_two s.one)) in
    let ends : length (word ++ one) ≡ 6 = omega (arith, length-append word one, length_four s.word, length_two s.one) in
    e₃
    ∙ put_on l at (word ++ one) up_to (omega (arith, ends)) two (omega (arith, length_two s.two))
    ∙ ap (λ (xs : List ℕ). put_at xs at l) (append_assoc word one two)

-- a slot that was written is read
pub slot_read : (p q : List ℕ) (j : ℕ) (s : Slot) → length p ≡ entry_bytes * j → slot_at (p ++ (slot_bytes s ++ q)) j ≡ s
unfolding slot_at slot_bytes
slot_read p q j s stands =
    let word = four_bytes s.word in
    let one = two_bytes s.one in
    let two = two_bytes s.two in
    let at_word : p ++ (word ++ (one ++ two) ++ q) ≡ p ++ (word ++ (one ++ two ++ q)) =
    ap (λ (xs : List ℕ). p ++ xs) (append_assoc word (one ++ two) q) in
    let at_one : p ++ (word ++ (one ++ two) ++ q) ≡ p ++ word ++ (one ++ (two ++ q)) =
    at_word ∙ sym (append_assoc p word (one ++ two ++ q)) ∙ ap (λ (xs : List ℕ). p ++ word ++ xs) (append_assoc one two q) in
    let at_two : p ++ (word ++ (one ++ two) ++ q) ≡ p ++ word ++ one ++ (two ++ q) =
    at_one ∙ sym (append_assoc (p ++ word) one (two ++ q)) in
    let to_one : length (p ++ word) ≡ entry_bytes * j + 4 = omega (arith, length-append p word, length_four s.word) in
    let to-two : length (p ++ word ++ one) ≡ entry_bytes * j + 6 = omega (arith, length-append (p ++ word) one, length_two s.one) in
    let at : ℕ = entry_bytes * j in
    let w = ap (λ (xs : List ℕ). four_at xs at) at_word ∙ four_read p (one ++ two ++ q) at s.word stands in
    let o = ap (λ (xs : List ℕ). two_at xs (at + 4)) at_one ∙ two_read (p ++ word) (two ++ q) (at + 4) s.one to_one in
    let t = ap (λ (xs : List ℕ). two_at xs (at + 6)) at_two ∙ two_read (p ++ word ++ one) q (at + 6) s.two to-two in
    λ i. record { word = w i; one = o i; two = t i }

-- bytes that were read as a slot are its bytes
pub slot_again : (l : List ℕ) (j : ℕ) → AreBytes l → entry_bytes * j + entry_bytes ≤ length l
    → slot_bytes (slot_at l j) ++ drop (entry_bytes * j + entry_bytes) l ≡ drop (entry_bytes * j) l
unfolding slot_at slot_bytes
slot_again l j bytes h =
    let at = entry_bytes * j in
    let word = four_bytes (four_at l at) in
    let one = two_bytes (two_at l (at + 4)) in
    let two = two_bytes (two_at l (at + 6)) in
    let past_two : at + entry_bytes ≡ at + 6 + 2 = omega arith in
    let past_one : at + 6 ≡ at + 4 + 2 = omega arith in
    let from-two : two ++ drop (at + entry_bytes) l ≡ drop (at + 6) l = rw past_two (two_again l (at + 6) bytes (omega arith)) in
    let from_one : one ++ drop (at + 6) l ≡ drop (at + 4) l = rw past_one (two_again l (at + 4) bytes (omega arith)) in
    append_assoc word (one ++ two) (drop (at + entry_bytes) l)
    ∙ ap (λ (xs : List ℕ). word ++ xs) (append_assoc one two (drop (at + entry_bytes) l))
    ∙ ap (λ (xs : List ℕ). word ++ (one ++ xs)) from-two
    ∙ ap (λ (xs : List ℕ). word ++ xs) from_one
    ∙ four_again l at bytes (omega arith)

-- an entry of three lists
module _ (words ones twos : List ℕ) (e : ℕ) where
  pub slot_from_lem : slot_from words ones twos e ≡ record { word = get_or words e 0; one = get_or ones e 0; two = get_or twos e 0 }
  unfolding slot_from
  slot_from_lem = refl

  pub word_from : (slot_from words ones twos e).word ≡ get_or words e 0
  word_from = ap (λ (s : Slot). s.word) slot_from_lem

  pub one_from : (slot_from words ones twos e).one ≡ get_or ones e 0
  one_from = ap (λ (s : Slot). s.one) slot_from_lem

  pub two_from : (slot_from words ones twos e).two ≡ get_or twos e 0
  two_from = ap (λ (s : Slot). s.two) slot_from_lem
