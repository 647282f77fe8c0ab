-- "A record written and read gives name and letters again", and a record that is read, written again, is its own bytes: what is written is a
-- record, what is read is one, and each record is written and read. Assumes nothing.
use mathlib.Core.Path.{◌≡◌, sym, ap, ◌∙◌}
use mathlib.Core.List.{List, ◌++◌}
use Prim.Native.Nat.{ℕ, ◌≤◌}
use lib.ListN.{length, take, drop}
use lib.Seq.{take-append_seam}
use Rattle.base_answers.specs.Numbers.{Name, Letter, Line}
use Rattle.base_answers.specs.Answer.{Answer, given}
use Rattle.base_answers.proofs.Laws.{first_passed, first_value}
use Rattle.base_letters.specs.Letters.{is_letter}
use Rattle.text_fasta.specs.Record.{leading, is_name, are_letters, record_of}
use Rattle.text_fasta.specs.Writing.{writing, Writes}
use Rattle.text_fasta.specs.Reading.{name_in, is_headed, body_in, letters_in, are_lines, reading, Reads}
use Rattle.text_fasta.specs.Profile.{IsRecord}
use Rattle.text_fasta.proofs.ByTests.{writing_given, writing_long}
use Rattle.text_fasta.proofs.ProfileLaws.{own_record, record_own, record_given}

-- ---- writing

module _ {name ls before after : List ℕ} {r : Answer ℕ} (did : Writes name ls before r after) where
  -- what is written is the record
  pub written_is_record : {n : ℕ} → r ≡ given n → IsRecord (take n after) name ls
  unfolding writing
  written_is_record {n} says =
      let bytes = record_of name ls in
      let given_is : writing name ls (length before) ≡ given n = sym did.answer ∙ says in
      let a = first_passed (is_name name) Name 0 _ (length bytes) n given_is in
      let b = first_passed (are_letters ls) Letter (leading is_letter ls) _ (length bytes) n a.1 in
      let long = writing_long name ls (length before) given_is in
      let stands : after ≡ bytes ++ drop (length bytes) before = rw given_is at did.bytes in
      record {
        named = a.0;
        lettered = b.0;
        is = rw (long, stands) (take-append_seam bytes (drop (length bytes) before));
      }

  -- and of a name and letters one is, where there is room for it
  pub record_is_written : {bytes : List ℕ} → IsRecord bytes name ls → length bytes ≤ length before
      → (r ≡ given (length bytes)) × (after ≡ bytes ++ drop (length bytes) before)
  record_is_written own room =
      let says = writing_given name ls (length before) own.named own.lettered (rw own.is at room) in
      rw own.is (did.answer ∙ says, rw says at did.bytes)

-- ---- reading

-- what is given is of a record, and says the lengths of its parts
given_of : (r : List ℕ) (names letters : ℕ) (v : ℕ × ℕ) → reading r names letters ≡ given v
    → IsRecord r (name_in r) (letters_in (body_in r)) × ((length (name_in r), length (letters_in (body_in r))) ≡ v)
unfolding reading
given_of r names letters v says =
    let ls = letters_in (body_in r) in
    let lengths : ℕ × ℕ = (length (name_in r), length ls) in
    let x = first_passed (is_headed r) Name 0 _ lengths v says in
    let y = first_passed (are_letters ls) Letter (leading is_letter ls) _ lengths v x.1 in
    let z = first_passed (are_lines (body_in r)) Line 0 _ lengths v y.1 in
    (own_record r x.0 y.0 z.0, first_value _ lengths v says)

module _ {r a b a' b' : List ℕ} {q : Answer (ℕ × ℕ)} (did : Reads r a b q a' b') where
  -- what is read is a record, of the name and the letters that are handed back
  pub read_is_record : {n k : ℕ} → q ≡ given (n, k) → IsRecord r (take n a') (take k b')
  read_is_record {n} {k} says =
      let name = name_in r in
      let ls = letters_in (body_in r) in
      let answer : reading r (length a) (length b) ≡ given (n, k) = sym did.answer ∙ says in
      let own = given_of r (length a) (length b) (n, k) answer in
      let names : a' ≡ name ++ drop (length name) a = rw answer at did.in_name in
      let letters : b' ≡ ls ++ drop (length ls) b = rw answer at did.in_letters in
      let first : n ≡ length name = sym (ap (λ (v : ℕ × ℕ). v.0) own.1) in
      let second : k ≡ length ls = sym (ap (λ (v : ℕ × ℕ). v.1) own.1) in
      let name_back : take n a' ≡ name = rw (first, names) (take-append_seam name (drop (length name) a)) in
      let letters-back : take k b' ≡ ls = rw (second, letters) (take-append_seam ls (drop (length ls) b)) in
      rw (name_back, letters-back) own.0

  -- and each record is read, where there is room for both
  pub record_is_read : {name ls : List ℕ} → IsRecord r name ls → length name ≤ length a → length ls ≤ length b
      → (q ≡ given (length name, length ls)) × (a' ≡ name ++ drop (length name) a) × (b' ≡ ls ++ drop (length ls) b)
  record_is_read {name} {ls} is h g =
      let own = record_own is in
      let says = record_given is h g in
      let names : a' ≡ name_in r ++ drop (length (name_in r)) a = rw says at did.in_name in
      let letters : b' ≡ letters_in (body_in r) ++ drop (length (letters_in (body_in r))) b = rw says at did.in_letters in (
        did.answer ∙ says ∙ ap (λ (xs : List ℕ). given (length xs, length (letters_in (body_in r)))) own.name_is
            ∙ ap (λ (xs : List ℕ). given (length name, length xs)) own.letters_are,
        names ∙ ap (λ (xs : List ℕ). xs ++ drop (length xs) a) own.name_is,
        letters ∙ ap (λ (xs : List ℕ). xs ++ drop (length xs) b) own.letters_are,
      )

-- ---- both ways

-- "A record written and read gives name and letters again."
pub written_reads_back : {name ls before after : List ℕ} {w : Answer ℕ} {n : ℕ} → Writes name ls before w after → w ≡ given n
    → {a b a' b' : List ℕ} {q : Answer (ℕ × ℕ)} → Reads (take n after) a b q a' b' → length name ≤ length a → length ls ≤ length b
    → (q ≡ given (length name, length ls)) × (a' ≡ name ++ drop (length name) a) × (b' ≡ ls ++ drop (length ls) b)
written_reads_back wrote says reads h g = record_is_read reads (written_is_record wrote says) h g

-- a record that is read, written again, is its own bytes
pub read_writes_back : {r a b a' b' : List ℕ} {q : Answer (ℕ × ℕ)} {n k : ℕ} → Reads r a b q a' b' → q ≡ given (n, k)
    → {before after : List ℕ} {w : Answer ℕ} → Writes (take n a') (take k b') before w after → length r ≤ length before
    → (w ≡ given (length r)) × (after ≡ r ++ drop (length r) before)
read_writes_back reads says wrote room = record_is_written wrote (read_is_record reads says) room
