-- Laws of putting text into a buffer: a loop that puts a part byte by byte, and parts one after the other. No contract cites this file.
-- Assumes nothing.
use mathlib.Core.Path.{◌≡◌, refl, sym, ap, ◌∙◌}
use mathlib.Core.List.{List, [], ◌∷◌, ◌++◌}
use Prim.Native.Nat.{ℕ, suc, ◌+◌, ◌^◌, ◌≤◌, ◌<◌}
use native.Mathlib.Numerals.{add-one}
use native.Mathlib.Omega.{arith}
use lib.ListN.{length, get_or, take, drop, set, length-append}
use lib.Seq.{take-suc, take_all, length-take-le, drop-drop, append_snoc, set_at}
use Rattle.base_lists.specs.Parts.{put_at}
use Rattle.base_lists.proofs.PutLaws.{put_none, put_one, put_length, put_part, put_on, put_next}
use Rattle.base_text.specs.Text.{ascii, decimal, others}
use Rattle.base_text.specs.Putting.{most_digits, Put}
use Rattle.base_text.proofs.DecimalLaws.{decimal_few}

-- ---- byte by byte

-- the first i bytes of xs stand in the buffer
pub record PutSoFar (xs : List ℕ) (at : ℕ) (before : List ℕ) (i : ℕ) (out : List ℕ) : Type 0 where
  pub within : i ≤ length xs
  pub room : at + length xs ≤ length before
  pub stands : out ≡ put_at (take i xs) at before

module _ (xs : List ℕ) (at : ℕ) (before : List ℕ) where
  pub put_so_far_none : at + length xs ≤ length before → PutSoFar xs at before 0 before
  put_so_far_none h = record { within = omega arith; room = h; stands = sym (put_none before at) }

  module _ {i : ℕ} {out : List ℕ} (so_far : PutSoFar xs at before i out) where
    length_so_far : length (take i xs) ≡ i
    length_so_far = length-take-le i xs so_far.within

    pub put_so_far_length : length out ≡ length before
    put_so_far_length =
        rw so_far.stands (put_length before (take i xs) at (omega (arith, so_far.within, so_far.room, length_so_far)))

    pub put_so_far_turn : i < length xs → PutSoFar xs at before (i + 1) (set out (at + i) (get_or xs i 0))
    put_so_far_turn h = record {
      within = omega arith;
      room = so_far.room;
      stands =
          put_next before at (take i xs) so_far.stands (ap (λ (k : ℕ). at + k) (sym length_so_far)) (get_or xs i 0)
          (omega (arith, so_far.room))
          ∙ ap (λ (ys : List ℕ). put_at ys at before) (sym (rw (add-one i) (take-suc xs i 0 h)));
    }

    pub put_so_far_all : length xs ≤ i → Put xs at before (at + length xs) out
    put_so_far_all h = record {
      room = so_far.room;
      ends = refl;
      stands = so_far.stands ∙ ap (λ (ys : List ℕ). put_at ys at before) (take_all i xs h);
    }

-- a single byte
pub put_byte : (before : List ℕ) (at b : ℕ) → at < length before → Put (b ∷ []) at before (at + 1) (set before at b)
put_byte before at b h = record { room = omega arith; ends = refl; stands = put_one before at b h }

-- ---- part by part

-- no byte
pub put_nothing : (before : List ℕ) (at : ℕ) → at ≤ length before → Put [] at before at before
put_nothing before at h = record { room = omega arith; ends = omega arith; stands = sym (put_none before at) }

module _ {xs before out : List ℕ} {at to : ℕ} (put : Put xs at before to out) where
  pub length_put : length out ≡ length before
  length_put = rw put.stands (put_length before xs at put.room)

  -- another part after it
  pub put_then : {ys after : List ℕ} {end : ℕ} → Put ys to out end after → Put (xs ++ ys) at before end after
  put_then {ys} next =
      let long = length-append xs ys in
      let fits : to + length ys ≤ length before = omega (arith, next.room, length_put) in
      record {
        room = omega (arith, put.ends);
        ends = omega (arith, next.ends, put.ends);
        stands = next.stands ∙ put_on before at xs put.stands put.ends ys fits;
      }

  -- another byte before it
  pub put_before : (x : ℕ) {from : ℕ} → at ≡ from + 1 → Put (x ∷ xs) from before to (set out from x)
  put_before x {from} next =
      let n = length xs in
      let y = get_or before from 0 in
      let front : take at before ≡ take from before ++ (y ∷ []) = rw (next, add-one from) (take-suc before from 0 (omega (arith, put.room))) in
      let further : at + n ≡ from + suc n = omega arith in
      let back : drop n (drop at before) ≡ drop (suc n) (drop from before) =
      drop-drop n at before ∙ ap (λ (i : ℕ). drop i before) further ∙ sym (drop-drop (suc n) from before) in
      let rest = xs ++ drop n (drop at before) in
      let cut : out ≡ take from before ++ y ∷ rest =
      put.stands
      ∙ sym (put_part before xs at n refl)
      ∙ ap (λ (zs : List ℕ). zs ++ rest) front
      ∙ append_snoc (take from before) y rest in
      record {
        room = omega (arith, put.room);
        ends = omega (arith, put.ends);
        stands =
            ap (λ (zs : List ℕ). set zs from x) cut
            ∙ set_at (take from before) y rest x from (length-take-le from before (omega (arith, put.room)))
            ∙ ap (λ (zs : List ℕ). take from before ++ x ∷ (xs ++ zs)) back
            ∙ put_part before (x ∷ xs) from (suc n) refl;
      }

  -- the same bytes by another name
  pub put_as : {ys : List ℕ} → xs ≡ ys → Put ys at before to out
  put_as e = rw e at put

-- ---- where numbers end

pub digits_end : {x at to : ℕ} {before after : List ℕ} → x < 2 ^ 64 → Put (decimal x) at before to after → to ≤ at + most_digits
digits_end {x} h put = omega (arith, put.ends, decimal_few x h)

pub number_ends : {x at to : ℕ} {before after : List ℕ} → x < 2 ^ 64 → Put (ascii " " ++ decimal x) at before to after
    → to ≤ at + 1 + most_digits
number_ends {x} h put = omega (arith, put.ends, decimal_few x h)

pub last_ends : (x : ℕ) {at to : ℕ} {before after : List ℕ} → x < 2 ^ 64 → Put (others (decimal x ∷ [])) at before to after
    → to ≤ at + 2 + most_digits
last_ends x h put = omega (arith, put.ends, decimal_few x h, length-append (decimal x) (ascii "\n"))
