-- What writing and reading answer, by each of their tests. Assumes nothing.
use mathlib.Core.Path.{◌≡◌, refl, sym, ◌∙◌}
use mathlib.Core.Bool.{Bool, true, false}
use mathlib.Core.List.{List, [], ◌∷◌, ◌++◌}
use mathlib.Core.Logic.{◌⊎◌, inl, inr}
use Prim.Native.Nat.{ℕ, ◌≤◌, ◌<◌}
use lib.ListN.{length}
use lib.Dec.{leb}
use borrow.Author.Tests.{le-leb, lt-leb}
use Rattle.base_answers.specs.Numbers.{Room, Name, Letter, Line}
use Rattle.base_answers.specs.Answer.{given, refused, sound, test, first}
use Rattle.base_answers.proofs.Laws.{first_pass, first_fail, first_last, first_refused, first_value}
use Rattle.base_letters.specs.Letters.{is_letter}
use Rattle.text_fasta.specs.Record.{leading, is_name, are_letters, record_of}
use Rattle.text_fasta.specs.Writing.{letter_test, writing}
use Rattle.text_fasta.specs.Reading.{name_in, is_headed, body_in, letters_in, are_lines, reading}
use Rattle.text_fasta.specs.Inner.{body_tests}
use Rattle.text_fasta.proofs.BodyLaws.{not_both}

module _ (name ls : List ℕ) (room : ℕ) where
  abbrev n : ℕ
  n = length (record_of name ls)

  pub writing_unnamed : is_name name ≡ false → writing name ls room ≡ refused Name 0
  unfolding writing
  writing_unnamed h = first_fail (is_name name) Name 0 _ n h

  -- what is given is the record's length
  pub writing_long : {k : ℕ} → writing name ls room ≡ given k → k ≡ n
  unfolding writing
  writing_long e = sym (first_value _ n _ e)

  module _ (named : is_name name ≡ true) where
    -- by the test of the letters alone
    pub writing_by_letters : {k p : ℕ} → first (letter_test ls ∷ []) sound ≡ refused k p → writing name ls room ≡ refused k p
    unfolding writing
    writing_by_letters e = first_pass (is_name name) Name 0 _ n named ∙ first_refused _ n (letter_test ls ∷ []) e

    pub writing_unlettered : are_letters ls ≡ false → writing name ls room ≡ refused Letter (leading is_letter ls)
    writing_unlettered h = writing_by_letters (first_fail (are_letters ls) Letter (leading is_letter ls) [] sound h)

    module _ (lettered : are_letters ls ≡ true) where
      then_room : writing name ls room ≡ first (test (leb n room) Room 0 ∷ []) n
      unfolding writing
      then_room = first_pass (is_name name) Name 0 _ n named ∙ first_pass (are_letters ls) Letter (leading is_letter ls) _ n lettered

      pub writing_short : room < n → writing name ls room ≡ refused Room 0
      writing_short h = then_room ∙ first_fail (leb n room) Room 0 [] n (lt-leb n room h)

      pub writing_given : n ≤ room → writing name ls room ≡ given n
      writing_given h = then_room ∙ first_last (leb n room) Room 0 n (le-leb n room h)

module _ (r : List ℕ) (names letters : ℕ) where
  abbrev ls : List ℕ
  ls = letters_in (body_in r)

  abbrev lengths : ℕ × ℕ
  lengths = (length (name_in r), length ls)

  abbrev fits_name : Bool
  fits_name = leb (length (name_in r)) names

  abbrev fits_letters : Bool
  fits_letters = leb (length ls) letters

  -- by the test of the name alone
  pub reading_by_head : {k p : ℕ} → first (test (is_headed r) Name 0 ∷ []) sound ≡ refused k p → reading r names letters ≡ refused k p
  unfolding reading
  reading_by_head e = first_refused _ lengths (test (is_headed r) Name 0 ∷ []) e

  pub reading_unheaded : is_headed r ≡ false → reading r names letters ≡ refused Name 0
  reading_unheaded h = reading_by_head (first_fail (is_headed r) Name 0 [] sound h)

  module _ (headed : is_headed r ≡ true) where
    then_body : reading r names letters ≡ first (body_tests (body_in r) ++ (test fits_name Room 0 ∷ test fits_letters Room 0 ∷ [])) lengths
    unfolding reading
    then_body = first_pass (is_headed r) Name 0 _ lengths headed

    -- by the tests of the body alone
    pub reading_by_body : {k p : ℕ} → first (body_tests (body_in r)) sound ≡ refused k p → reading r names letters ≡ refused k p
    reading_by_body e = then_body ∙ first_refused _ lengths (body_tests (body_in r)) e

    pub reading_unlettered : are_letters ls ≡ false → reading r names letters ≡ refused Letter (leading is_letter ls)
    reading_unlettered h = then_body ∙ first_fail (are_letters ls) Letter (leading is_letter ls) _ lengths h

    module _ (lettered : are_letters ls ≡ true) where
      pub reading_unlined : are_lines (body_in r) ≡ false → reading r names letters ≡ refused Line 0
      reading_unlined h =
          then_body
          ∙ first_pass (are_letters ls) Letter (leading is_letter ls) _ lengths lettered
          ∙ first_fail (are_lines (body_in r)) Line 0 _ lengths h

      module _ (lines : are_lines (body_in r) ≡ true) where
        then_rooms : reading r names letters ≡ first (test fits_name Room 0 ∷ test fits_letters Room 0 ∷ []) lengths
        then_rooms =
            then_body
            ∙ first_pass (are_letters ls) Letter (leading is_letter ls) _ lengths lettered
            ∙ first_pass (are_lines (body_in r)) Line 0 _ lengths lines

        pub reading_short : (names < length (name_in r)) ⊎ (letters < length ls) → reading r names letters ≡ refused Room 0
        reading_short h = then_rooms ∙ go h fits_name refl
          where
            go : (names < length (name_in r)) ⊎ (letters < length ls) → (t : Bool) → fits_name ≡ t
                → first (test fits_name Room 0 ∷ test fits_letters Room 0 ∷ []) lengths ≡ refused Room 0
            go h false q = first_fail fits_name Room 0 _ lengths q
            go (inl h) true q = absurd (not_both q (lt-leb (length (name_in r)) names h))
            go (inr h) true q =
                first_pass fits_name Room 0 _ lengths q ∙ first_fail fits_letters Room 0 [] lengths (lt-leb (length ls) letters h)

        pub reading_given : length (name_in r) ≤ names → length ls ≤ letters → reading r names letters ≡ given lengths
        reading_given h g =
            then_rooms
            ∙ first_pass fits_name Room 0 _ lengths (le-leb (length (name_in r)) names h)
            ∙ first_last fits_letters Room 0 lengths (le-leb (length ls) letters g)
