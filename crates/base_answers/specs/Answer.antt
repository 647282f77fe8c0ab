-- What an operation that tests its input answers: "one of the answers", or a refusal that "carries its number and place".
--   sound             == what is given where there is nothing to give but that the tests hold
--   Answer A          == a value of A that is given, or a refusal with its number and place
--   test ok n p       == a test, and the refusal n at p that is due where it fails
--   first ts a        == the refusal of the first of the tests ts that fails, or else a is given
--   number_of r, place_of r == the number of a refusal, and its place
--   says_as view r, says r == what a result says: what is given, seen by view or as it is, or the refusal with its number and place
--   says_held r        == the same where nothing is given
--   output_after bytes before a    == a lent output after the answer a, where it was `before`: bytes that are given stand at its start, and its
--                                    later ones are as they were; a refusal changes no byte (demand 1)
-- Every order of tests in 01 is one list of tests, in that order. Assumes nothing.
use Rattle.std.specs.Prelude.{Bool, cond, List, [], ◌∷◌, ◌++◌, ℕ, length, drop}
use Rattle.std.specs.Prelude.{Result, Ok, Err}
use Rattle.base_answers.specs.declared.Refusal.{Refusal}
use Rattle.base_answers.specs.declared.Refusal.TheVariants as is
use Rattle.base_answers.specs.Numbers as numbers

pub data Answer (A : Type 0) : Type 0 where
  given : A → Answer A
  refused : ℕ → ℕ → Answer A

-- nothing to give but that the tests hold
pub data Sound : Type 0 where
  sound : Sound

pub data Test : Type 0 where
  test : Bool → ℕ → ℕ → Test

unfoldable pub first : {A : Type 0} → List Test → A → Answer A
first [] a = given a
first (test ok n p ∷ ts) a = cond ok (first ts a) (refused n p)

abbrev pub number_of : Refusal → ℕ
number_of is.Short = numbers.Short
number_of (is.Check p) = numbers.Check
number_of (is.Index p) = numbers.Index
number_of is.Form = numbers.Form
number_of is.Kind = numbers.Kind
number_of is.WordLength = numbers.WordLength
number_of is.Count = numbers.Count
number_of (is.Spare p) = numbers.Spare
number_of is.Size = numbers.Size
number_of (is.Word p) = numbers.Word
number_of (is.Places p) = numbers.Places
number_of is.Room = numbers.Room
number_of is.Lists = numbers.Lists
number_of is.Absent = numbers.Absent
number_of is.Name = numbers.Name
number_of (is.Letter p) = numbers.Letter
number_of is.Line = numbers.Line
number_of (is.Text p) = numbers.Text
number_of (is.Mixed p) = numbers.Mixed
number_of (is.Uneven p) = numbers.Uneven
number_of (is.Zero p) = numbers.Zero
number_of (is.Wider p) = numbers.Wider

abbrev pub place_of : Refusal → ℕ
place_of is.Short = 0
place_of (is.Check p) = p
place_of (is.Index p) = p
place_of is.Form = 0
place_of is.Kind = 0
place_of is.WordLength = 0
place_of is.Count = 0
place_of (is.Spare p) = p
place_of is.Size = 0
place_of (is.Word p) = p
place_of (is.Places p) = p
place_of is.Room = 0
place_of is.Lists = 0
place_of is.Absent = 0
place_of is.Name = 0
place_of (is.Letter p) = p
place_of is.Line = 0
place_of (is.Text p) = p
place_of (is.Mixed p) = p
place_of (is.Uneven p) = p
place_of (is.Zero p) = p
place_of (is.Wider p) = p

abbrev pub says_as : {A B : Type 0} → (A → B) → Result A Refusal → Answer B
says_as view (Ok a) = given (view a)
says_as view (Err r) = refused (number_of r) (place_of r)

abbrev pub says : {A : Type 0} → Result A Refusal → Answer A
says = says_as (λ a. a)

abbrev pub says_held : Result (Unit {0}) Refusal → Answer Sound
says_held = says_as (λ _. sound)

abbrev pub output_after : {A : Type 0} → List ℕ → List ℕ → Answer A → List ℕ
output_after bytes before (given a) = bytes ++ drop (length bytes) before
output_after bytes before (refused n p) = before
