-- The contracts of writing and reading, as the code meets them. Assumes nothing.
use mathlib.Core.Path.{◌≡◌, refl, sym, ap, ◌∙◌}
use mathlib.Core.Bool.{Bool, true, false}
use mathlib.Core.Logic.{◌⊎◌, inl, inr}
use mathlib.Core.List.{List, [], ◌∷◌, ◌++◌}
use Prim.Native.Nat.{ℕ, ◌+◌, ◌≤◌, ◌<◌}
use native.Mathlib.Omega.{arith}
use lib.ListN.{length, drop, length-append}
use lib.Seq.{append_snoc}
use lib.Dec.{leb}
use borrow.Author.Tests.{leb-true, leb-false}
use Rattle.base_answers.specs.Numbers.{Room, Name, Letter, Line}
use Rattle.base_answers.specs.Answer.{given, refused, sound, Test, test, first}
use Rattle.base_answers.proofs.Laws.{first_fail, first_refused, first_holds, first_passed, first_value, first_refused_any}
use Rattle.base_lists.proofs.PutLaws.{put_start}
use Rattle.base_text.specs.Putting.{Put}
use Rattle.base_letters.specs.Letters.{is_letter}
use Rattle.text_fasta.specs.Record.{newline, mark, leading, is_name, are_letters, lines_for, in_lines, record_of}
use Rattle.text_fasta.specs.Writing.{letter_test, writing, Writes}
use Rattle.text_fasta.specs.Reading.{name_length, name_in, is_headed, body_in, letters_in, are_lines, reading, Reads}
use Rattle.text_fasta.specs.Inner.{is_body, body_tests}
use Rattle.text_fasta.proofs.LineLaws.{length_lines}
use Rattle.text_fasta.proofs.LinedLaws.{is_body_lem, other_lines}
use Rattle.text_fasta.proofs.HeadLaws.{name_length_lem}
use Rattle.text_fasta.proofs.ByTests.{
  writing_unnamed,
  writing_by_letters,
  writing_short,
  writing_given,
  reading_by_head,
  reading_by_body,
  reading_short,
  reading_given,
}

-- what is put at the start
started : {xs before after : List ℕ} {n : ℕ} → Put xs 0 before n after → (n ≡ length xs) × (after ≡ xs ++ drop (length xs) before)
started {xs} {before} put = (omega (arith, put.ends), put.stands ∙ put_start before xs)

-- ---- writing

pub length_record : (name ls : List ℕ) → length (record_of name ls) ≡ length name + 2 + (length ls + lines_for (length ls))
unfolding record_of
length_record name ls = omega (arith, length-append name (newline ∷ in_lines ls), length_lines ls)

pub record_parts : (name ls : List ℕ) → ((mark ∷ []) ++ (name ++ (newline ∷ []))) ++ in_lines ls ≡ record_of name ls
unfolding record_of
record_parts name ls = ap (λ (xs : List ℕ). mark ∷ xs) (append_snoc name newline (in_lines ls))

module _ (name ls out : List ℕ) where
  abbrev bytes : List ℕ
  bytes = record_of name ls

  writes_refused : {n p : ℕ} → writing name ls (length out) ≡ refused n p → Writes name ls out (refused n p) out
  writes_refused e = record { answer = sym e; bytes = rw e refl }

  pub no_name : is_name name ≡ false → Writes name ls out (refused Name 0) out
  no_name h = writes_refused (writing_unnamed name ls (length out) h)

  module _ (named : is_name name ≡ true) where
    pub no_letters : {n p : ℕ} → first (letter_test ls ∷ []) sound ≡ refused n p → Writes name ls out (refused n p) out
    no_letters e = writes_refused (writing_by_letters name ls (length out) named e)

    module _ (lettered : are_letters ls ≡ true) where
      -- by the test that the code takes
      abbrev counted : Bool
      counted = leb (length name + 2 + (length ls + lines_for (length ls))) (length out)

      pub no_room : counted ≡ false → Writes name ls out (refused Room 0) out
      no_room h =
          let short = leb-false (length name + 2 + (length ls + lines_for (length ls))) (length out) h in
          writes_refused (writing_short name ls (length out) named lettered (omega (arith, short, length_record name ls)))

      pub room_for : counted ≡ true → length bytes ≤ length out
      room_for h = omega (arith, leb-true (length name + 2 + (length ls + lines_for (length ls))) (length out) h, length_record name ls)

      pub record_written : counted ≡ true → {n : ℕ} {after : List ℕ} → Put bytes 0 out n after → Writes name ls out (given n) after
      record_written h put =
          let says = writing_given name ls (length out) named lettered (room_for h) in
          let at = started put in
          record { answer = ap given at.0 ∙ sym says; bytes = rw says at.1 }

-- ---- reading

module _ (r name letters : List ℕ) where
  abbrev ls : List ℕ
  ls = letters_in (body_in r)

  reads_refused : {n p : ℕ} → reading r (length name) (length letters) ≡ refused n p → Reads r name letters (refused n p) name letters
  reads_refused e = record { answer = sym e; in_name = rw e refl; in_letters = rw e refl }

  pub not_headed : (k : ℕ) {n p : ℕ} → first (test (is_headed r) Name 0 ∷ []) k ≡ refused n p → Reads r name letters (refused n p) name letters
  not_headed k e = reads_refused (reading_by_head r (length name) (length letters) (first_refused_any _ k sound e))

  module _ (headed : is_headed r ≡ true) where
    pub no_body : {n p : ℕ} → refused n p ≡ first (body_tests (body_in r)) sound → Reads r name letters (refused n p) name letters
    no_body e = reads_refused (reading_by_body r (length name) (length letters) headed (sym e))

    module _ (body : is_body (body_in r) ≡ true) where
      by_room : (length name < length (name_in r)) ⊎ (length letters < length ls)
          → Reads r name letters (refused Room 0) name letters
      by_room h =
          let held = is_body_lem (body_in r) body in
          reads_refused (reading_short r (length name) (length letters) headed held.0 held.1 h)

      module _ {n : ℕ} (named : n ≡ name_length r) where
        pub no_room_name : length name < n → Reads r name letters (refused Room 0) name letters
        no_room_name h = by_room (inl (omega (arith, name_length_lem r)))

        module _ {k : ℕ} (counted : k ≡ length ls) where
          pub no_room_letters : length letters < k → Reads r name letters (refused Room 0) name letters
          no_room_letters h = by_room (inr (omega (arith, counted)))

          pub record_read : n ≤ length name → k ≤ length letters → {i j : ℕ} {name' letters' : List ℕ} → Put (name_in r) 0 name i name'
              → Put ls 0 letters j letters'
              → Reads r name letters (given (n, k)) name' letters'
          record_read g h one other =
              let held = is_body_lem (body_in r) body in
              let own : n ≡ length (name_in r) = named ∙ sym (name_length_lem r) in
              let says = reading_given r (length name) (length letters) headed held.0 held.1 (omega (arith, own)) (omega (arith, counted)) in
              record {
                answer = rw (own, counted) (sym says);
                in_name = rw says (started one).1;
                in_letters = rw says (started other).1;
              }

-- ---- why a body is none

module _ (bs : List ℕ) where
  abbrev lines_test : List Test
  lines_test = test (are_lines bs) Line 0 ∷ []

  pub letters_fault : {n p : ℕ} → first (letter_test (letters_in bs) ∷ []) sound ≡ refused n p → refused n p ≡ first (body_tests bs) sound
  letters_fault e = sym (first_refused lines_test sound (letter_test (letters_in bs) ∷ []) e)

  pub lines_fault : is_body bs ≡ false → first (letter_test (letters_in bs) ∷ []) sound ≡ given sound
      → refused Line 0 ≡ first (body_tests bs) sound
  lines_fault none e =
      let held = (first_passed (are_letters (letters_in bs)) Letter (leading is_letter (letters_in bs)) [] sound sound e).0 in
      sym
      (first_holds lines_test sound (letter_test (letters_in bs) ∷ []) e
      ∙ first_fail (are_lines bs) Line 0 [] sound (other_lines bs none held))

-- ---- what looking for the name says

pub name_held : (ok : Bool) (q p a n : ℕ) → first (test ok q p ∷ []) a ≡ given n → (ok ≡ true) × (n ≡ a)
name_held ok q p a n e = ((first_passed ok q p [] a n e).0, sym (first_value _ a n e))
