-- What is read of a record is the name and the letters that it is of, and `is_headed` holds of just what begins as a record should. Assumes
-- nothing.
use mathlib.Core.Path.{◌≡◌, refl, sym, ap, ◌∙◌}
use mathlib.Core.Bool.{true}
use mathlib.Core.List.{List, ◌∷◌, ◌++◌}
use Prim.Native.Nat.{ℕ, suc, ◌+◌, ◌≤◌}
use native.Mathlib.Numerals.{add-one}
use native.Mathlib.Omega.{arith}
use lib.ListN.{length, get_or, take, drop, length-drop}
use lib.Seq.{split_at, drop-cons, take-append_seam, drop-drop, drop-append-add, get_or-append_seam, get_or-drop}
use borrow.Author.Tests.{eq-eqb}
use Rattle.text_fasta.specs.Record.{newline, mark, leading, is_printable, is_name, are_letters, in_lines, record_of}
use Rattle.base_answers.specs.Answer.{given}
use Rattle.text_fasta.specs.Reading.{no_break, name_length, name_in, is_headed, body_in, letters_in, are_lines, reading}
use Rattle.text_fasta.specs.Profile.{IsRecord, Begins}
use Rattle.text_fasta.proofs.ByTests.{reading_given}
use Rattle.text_fasta.proofs.LeadingLaws.{leading_up_to, leading_also}
use Rattle.text_fasta.proofs.TestLaws.{printable_within, name_holds, letters_held}
use Rattle.text_fasta.proofs.BodyLaws.{is_break, no_break_lem, lines_lined, lined_lines, plain_letters}
use Rattle.text_fasta.proofs.LinedLaws.{letters_lines}
use Rattle.text_fasta.proofs.HeadLaws.{headed_parts, headed_room}

-- ---- no newline is printable

unbroken_name : (name : List ℕ) → is_name name ≡ true → leading no_break name ≡ length name
unbroken_name name named =
    leading_also is_printable no_break (λ b e. no_break_lem b (λ is. omega (arith, (printable_within b e).0))) name (name_holds name named).2

-- ---- what begins as a record should

-- what is read of it
pub record Head (r name body : List ℕ) : Type 0 where
  pub headed : is_headed r ≡ true
  pub name_is : name_in r ≡ name
  pub body_is : body_in r ≡ body

module _ (name body : List ℕ) (named : is_name name ≡ true) where
  abbrev rest : List ℕ
  rest = name ++ (newline ∷ body)

  abbrev whole : List ℕ
  whole = mark ∷ rest

  long : name_length whole ≡ length name
  unfolding name_length
  long = leading_up_to no_break name newline body (unbroken_name name named) (is_break newline refl)

  own_name : name_in whole ≡ name
  own_name = ap (λ (k : ℕ). take k rest) long ∙ take-append_seam name (newline ∷ body)

  ends : get_or whole (name_length whole + 1) 0 ≡ newline
  ends = ap (λ (k : ℕ). get_or whole (k + 1) 0) long ∙ rw (add-one (length name)) (get_or-append_seam name newline body 0)

  own_body : body_in whole ≡ body
  own_body =
      let past : length name + 2 ≡ suc (length name + 1) = omega arith in
      ap (λ (k : ℕ). drop (k + 2) whole) long ∙ ap (λ (k : ℕ). drop k whole) past ∙ drop-append-add name (newline ∷ body) 1

  holds : is_headed whole ≡ true
  unfolding is_headed
  holds = rw (own_name, named, eq-eqb (get_or whole (name_length whole + 1) 0) newline ends) refl

pub begins_headed : {r name body : List ℕ} → Begins r name body → Head r name body
begins_headed {name = name} {body = body} b =
    rw b.parts
    (record { headed = holds name body b.named; name_is = own_name name body b.named; body_is = own_body name body b.named })

-- and nothing else does
pub headed_begins : (r : List ℕ) → is_headed r ≡ true → Begins r (name_in r) (body_in r)
headed_begins r e =
    let parts = headed_parts r e in
    let room = headed_room r e in
    let n = name_length r in
    let on : 1 + suc n ≡ n + 2 = omega arith in
    let next : get_or (drop 1 r) n 0 ≡ newline = get_or-drop 1 r n 0 ∙ ap (λ (k : ℕ). get_or r k 0) (one_on n) ∙ parts.2 in
    let after : drop 1 r ≡ name_in r ++ (newline ∷ body_in r) =
    split_at (drop 1 r) n 0 (omega (arith, length-drop 1 r))
    ∙ ap (λ (b : ℕ). name_in r ++ (b ∷ drop (suc n) (drop 1 r))) next
    ∙ ap (λ (xs : List ℕ). name_in r ++ (newline ∷ xs)) (drop-drop (suc n) 1 r ∙ ap (λ (k : ℕ). drop k r) on) in
    record {
      named = parts.1;
      parts = drop-cons r 0 0 (omega arith) ∙ ap (λ (b : ℕ). b ∷ drop 1 r) parts.0 ∙ ap (λ (xs : List ℕ). mark ∷ xs) after;
    }
  where
    one_on : (n : ℕ) → 1 + n ≡ n + 1
    one_on n = omega arith

-- ---- a record

-- of which each part is as it should be
pub own_record : (r : List ℕ) → is_headed r ≡ true → are_letters (letters_in (body_in r)) ≡ true → are_lines (body_in r) ≡ true
    → IsRecord r (name_in r) (letters_in (body_in r))
unfolding record_of
own_record r headed lettered lines =
    let begins = headed_begins r headed in
    record {
      named = begins.named;
      lettered = lettered;
      is = begins.parts ∙ ap (λ (body : List ℕ). mark ∷ (name_in r ++ (newline ∷ body))) (lines_lined (body_in r) lines);
    }

-- what is read of it, and that its body is lines
pub record Own (r name ls : List ℕ) : Type 0 where
  pub headed : is_headed r ≡ true
  pub name_is : name_in r ≡ name
  pub letters_are : letters_in (body_in r) ≡ ls
  pub lines : are_lines (body_in r) ≡ true

own_parts : (name ls : List ℕ) → is_name name ≡ true → are_letters ls ≡ true → Own (record_of name ls) name ls
unfolding record_of
own_parts name ls named lettered =
    let head = begins_headed {r = record_of name ls} (record { named = named; parts = refl }) in
    let letters : letters_in (in_lines ls) ≡ ls = letters_lines ls (plain_letters ls (letters_held ls lettered).2) in
    record {
      headed = head.headed;
      name_is = head.name_is;
      letters_are = ap letters_in head.body_is ∙ letters;
      lines = rw head.body_is (lined_lines (in_lines ls) (sym (ap in_lines letters)));
    }

-- so of each record
pub record_own : {r name ls : List ℕ} → IsRecord r name ls → Own r name ls
record_own {name = name} {ls = ls} is = rw is.is (own_parts name ls is.named is.lettered)

-- and where there is room for both parts it is read
pub record_given : {r name ls : List ℕ} {names letters : ℕ} → IsRecord r name ls → length name ≤ names → length ls ≤ letters
    → reading r names letters ≡ given (length (name_in r), length (letters_in (body_in r)))
record_given {r} {names = names} {letters = letters} is h g =
    let own = record_own is in
    reading_given r names letters own.headed (ap are_letters own.letters_are ∙ is.lettered) own.lines
    (omega (arith, ap length own.name_is)) (omega (arith, ap length own.letters_are))
