-- The profile (02, §1), and each refusal told by how a record departs from it, not by how it is read.
--   IsRecord r name ls         == r is the record of a name and of letters
--   Begins r name body         == r is `>`, a name, a newline, and a body
--   LetterFault ls p           == p letters stand before the first of ls that is none; or ls is empty, and p is 0
--   Departs r n p              == how r departs from the profile, by the refusal n at p
--   Judged r                   == r is a record, or it departs from the profile
--   Unread r names letters n p == why r is not read, by the refusal n at p: it departs, or it is a record, and one of the two outputs, of so many
--                                 bytes, is shorter than its part
--   Unwritten name ls room n p == why no record is written, likewise
-- Assumes nothing.
use Rattle.std.specs.Prelude.{◌≡◌, true, false, List, [], ◌∷◌, ◌++◌, ◌⊎◌, ℕ, ◌<◌, length}
use Rattle.base_answers.specs.Numbers.{Room, Name, Letter, Line}
use Rattle.base_letters.specs.Letters.{is_letter}
use Rattle.text_fasta.specs.Record.{newline, mark, are_all, is_name, are_letters, in_lines, record_of}
use Rattle.text_fasta.specs.Reading.{letters_in}

pub record IsRecord (r name ls : List ℕ) : Type 0 where
  pub named : is_name name ≡ true
  pub lettered : are_letters ls ≡ true
  pub is : r ≡ record_of name ls

pub record Begins (r name body : List ℕ) : Type 0 where
  pub named : is_name name ≡ true
  pub parts : r ≡ mark ∷ (name ++ (newline ∷ body))

-- "with the count of letters before it (no letter at all counts, at 0)"
pub data LetterFault : List ℕ → ℕ → Type 0 where
  not_a_letter : (xs : List ℕ) (y : ℕ) (ys : List ℕ) → are_all is_letter xs ≡ true → is_letter y ≡ false → LetterFault (xs ++ (y ∷ ys)) (length xs)
  none_at_all : LetterFault [] 0

pub data Departs (r : List ℕ) : ℕ → ℕ → Type 0 where
  -- "20 Name (also a missing `>` or no newline after the name)"
  name : ((name body : List ℕ) → Begins r name body → ⊥) → Departs r Name 0
  letter : {name body : List ℕ} {p : ℕ} → Begins r name body → LetterFault (letters_in body) p → Departs r Letter p
  -- "where a break is missing or stands elsewhere than the rule puts it"
  line : {name body : List ℕ} → Begins r name body → are_letters (letters_in body) ≡ true → (body ≡ in_lines (letters_in body) → ⊥)
      → Departs r Line 0

-- it is one, or it departs
pub data Judged (r : List ℕ) : Type 0 where
  keeps : {name ls : List ℕ} → IsRecord r name ls → Judged r
  breaks : {n p : ℕ} → Departs r n p → Judged r

-- then 12
pub data Unread (r : List ℕ) (names letters : ℕ) : ℕ → ℕ → Type 0 where
  departs : {n p : ℕ} → Departs r n p → Unread r names letters n p
  short : {name ls : List ℕ} → IsRecord r name ls → (names < length name) ⊎ (letters < length ls) → Unread r names letters Room 0

pub data Unwritten (name ls : List ℕ) (room : ℕ) : ℕ → ℕ → Type 0 where
  no_name : is_name name ≡ false → Unwritten name ls room Name 0
  no_letters : {p : ℕ} → is_name name ≡ true → LetterFault ls p → Unwritten name ls room Letter p
  no_room : is_name name ≡ true → are_letters ls ≡ true → room < length (record_of name ls) → Unwritten name ls room Room 0
