-- What is refused: reading refuses exactly what departs from the profile, by the departure that comes first in the order, and then a record
-- whose parts do not fit; writing likewise. On a refusal no byte of an output differs. Assumes nothing.
use mathlib.Core.Path.{◌≡◌, refl, sym, ap, ◌∙◌}
use mathlib.Core.Bool.{Bool, true, false}
use mathlib.Core.List.{List, [], ◌∷◌, ◌++◌}
use mathlib.Core.Logic.{◌⊎◌, inl, inr}
use Prim.Native.Nat.{ℕ, suc, ◌<◌}
use native.Mathlib.Omega.{arith}
use lib.ListN.{length, get_or, take, drop, length-append}
use lib.Seq.{split_at, length-take-le}
use lib.Dec.{leb, ltb}
use borrow.Author.Tests.{leb-true, leb-false, eq-eqb, eqb-true, ltb-true, ltb-false}
use Rattle.base_answers.specs.Numbers.{Letter}
use Rattle.base_answers.specs.Answer.{Answer, refused}
use Rattle.base_answers.proofs.Laws.{given_not_refused}
use Rattle.base_letters.specs.Letters.{is_letter}
use Rattle.text_fasta.specs.Record.{leading, are_all, is_name, are_letters, record_of}
use Rattle.text_fasta.specs.Writing.{writing, Writes}
use Rattle.text_fasta.specs.Reading.{name_in, is_headed, body_in, letters_in, are_lines, reading, Reads}
use Rattle.text_fasta.specs.Profile.{IsRecord, Begins, LetterFault, not_a_letter, none_at_all, Departs, name, letter, line, Unread, departs, short, Unwritten, no_name, no_letters, no_room, Judged, keeps, breaks}
use Rattle.text_fasta.proofs.LeadingLaws.{leading_few, leading_next, leading_own, leading_up_to}
use Rattle.text_fasta.proofs.TestLaws.{letters_hold, letters_fail}
use Rattle.text_fasta.proofs.BodyLaws.{not_both, lined_lines, not_lined}
use Rattle.text_fasta.proofs.ByTests.{writing_unnamed, writing_unlettered, writing_short, writing_given, reading_unheaded, reading_unlettered, reading_unlined, reading_short}
use Rattle.text_fasta.proofs.ProfileLaws.{begins_headed, headed_begins, own_record, Own, record_own, record_given}

-- a refusal has one number and one place
refusal_parts : {A : Type 0} {n p m q : ℕ} → ◌≡◌ {A = Answer A} (refused n p) (refused m q) → (n ≡ m) × (p ≡ q)
refusal_parts {n = n} {p = p} {m = m} {q = q} e = let x : n ≡ m = cc in let y : p ≡ q = cc in (x, y)

-- ---- letters

fault_as : {xs ys : List ℕ} {p q : ℕ} → LetterFault xs p → xs ≡ ys → p ≡ q → LetterFault ys q
fault_as f e g = rw g at (rw e at f)

fault_of : (ls : List ℕ) → are_letters ls ≡ false → LetterFault ls (leading is_letter ls)
unfolding leading
fault_of [] e = none_at_all
fault_of (x ∷ xs) e = go (ltb (leading is_letter (x ∷ xs)) (length (x ∷ xs))) refl
  where
    at : leading is_letter (x ∷ xs) < length (x ∷ xs) → LetterFault (x ∷ xs) (leading is_letter (x ∷ xs))
    at h =
        let ls : List ℕ = x ∷ xs in
        let n : ℕ = leading is_letter ls in
        let long : length (take n ls) ≡ n = length-take-le n ls (leading_few is_letter ls) in
        let all : are_all is_letter (take n ls) ≡ true =
        eq-eqb (leading is_letter (take n ls)) (length (take n ls)) (leading_own is_letter ls ∙ sym long) in
        fault_as (not_a_letter (take n ls) (get_or ls n 0) (drop (suc n) ls) all (leading_next is_letter ls h)) (sym (split_at ls n 0 h)) long

    go : (t : Bool) → ltb (leading is_letter (x ∷ xs)) (length (x ∷ xs)) ≡ t → LetterFault (x ∷ xs) (leading is_letter (x ∷ xs))
    go true q = at (ltb-true (leading is_letter (x ∷ xs)) (length (x ∷ xs)) q)
    go false q =
        let many = ltb-false (leading is_letter (x ∷ xs)) (length (x ∷ xs)) q in
        let all : length (x ∷ xs) ≡ leading is_letter (x ∷ xs) = omega (arith, many, leading_few is_letter (x ∷ xs)) in
        absurd (not_both (letters_hold (x ∷ xs) (omega arith) all) e)

of_fault : {ls : List ℕ} {p : ℕ} → LetterFault ls p → (are_letters ls ≡ false) × (leading is_letter ls ≡ p)
unfolding leading
of_fault (not_a_letter xs y ys all off) =
    let lead = leading_up_to is_letter xs y ys (eqb-true (leading is_letter xs) (length xs) all) off in
    (letters_fail (xs ++ (y ∷ ys)) (inl (omega (arith, lead, length-append xs (y ∷ ys)))), lead)
of_fault none_at_all = (letters_fail [] (inr refl), refl)

-- ---- the profile

-- each text is a record or departs from the profile
pub judged : (r : List ℕ) → Judged r
judged r = go_head (is_headed r) refl
  where
    go_lines : is_headed r ≡ true → are_letters (letters_in (body_in r)) ≡ true → (t : Bool) → are_lines (body_in r) ≡ t → Judged r
    go_lines headed lettered true q = keeps (own_record r headed lettered q)
    go_lines headed lettered false q = breaks (line (headed_begins r headed) lettered (λ own. not_both (lined_lines (body_in r) own) q))

    go_letters : is_headed r ≡ true → (t : Bool) → are_letters (letters_in (body_in r)) ≡ t → Judged r
    go_letters headed true q = go_lines headed q (are_lines (body_in r)) refl
    go_letters headed false q = breaks (letter (headed_begins r headed) (fault_of (letters_in (body_in r)) q))

    go_head : (t : Bool) → is_headed r ≡ t → Judged r
    go_head true q = go_letters q (are_letters (letters_in (body_in r))) refl
    go_head false q = breaks (name (λ nm body b. not_both (begins_headed b).headed q))

-- ---- reading

unread_as : {r : List ℕ} {names letters n p m q : ℕ} → Unread r names letters m q → ◌≡◌ {A = Answer (ℕ × ℕ)} (refused m q) (refused n p)
    → Unread r names letters n p
unread_as u e = let same = refusal_parts e in rw same.1 at (rw same.0 at u)

module _ (r : List ℕ) (names letters : ℕ) where
  abbrev ls : List ℕ
  ls = letters_in (body_in r)

  abbrev answer : Answer (ℕ × ℕ)
  answer = reading r names letters

  -- what is unread is refused so
  no_head : ((name body : List ℕ) → Begins r name body → ⊥) → is_headed r ≡ false
  no_head none = go (is_headed r) refl
    where
      go : (t : Bool) → is_headed r ≡ t → is_headed r ≡ false
      go false q = q
      go true q = absurd (none (name_in r) (body_in r) (headed_begins r q))

  departs_refused : {n p : ℕ} → Departs r n p → answer ≡ refused n p
  departs_refused (name none) = reading_unheaded r names letters (no_head none)
  departs_refused (letter {body = body} begins fault) =
      let head = begins_headed begins in
      let own = of_fault fault in
      let same : ls ≡ letters_in body = ap letters_in head.body_is in
      reading_unlettered r names letters head.headed (ap are_letters same ∙ own.0)
      ∙ ap (λ (xs : List ℕ). refused Letter (leading is_letter xs)) same ∙ ap (refused Letter) own.1
  departs_refused (line {body = body} begins lettered other) =
      let head = begins_headed begins in
      let same : ls ≡ letters_in body = ap letters_in head.body_is in
      reading_unlined r names letters head.headed (ap are_letters same ∙ lettered) (ap are_lines head.body_is ∙ not_lined body other)

  unread_refused : {n p : ℕ} → Unread r names letters n p → answer ≡ refused n p
  unread_refused (departs d) = departs_refused d
  unread_refused (short {name = nm} {ls = own-letters} is h) =
      let own = record_own is in
      reading_short r names letters own.headed (ap are_letters own.letters_are ∙ is.lettered) own.lines (go own h)
    where
      go : Own r nm own-letters → (names < length nm) ⊎ (letters < length own-letters) → (names < length (name_in r)) ⊎ (letters < length ls)
      go own (inl h) = inl (omega (arith, ap length own.name_is))
      go own (inr h) = inr (omega (arith, ap length own.letters_are))

  -- and nothing else is
  why_unread : {n p : ℕ} → answer ≡ refused n p → Unread r names letters n p
  why_unread {n} {p} e = go (judged r)
    where
      told : {m q : ℕ} → Unread r names letters m q → Unread r names letters n p
      told u = unread_as u (sym (unread_refused u) ∙ e)

      room : {nm own-letters : List ℕ} → IsRecord r nm own-letters → (t : Bool) → leb (length nm) names ≡ t → (u : Bool)
          → leb (length own-letters) letters ≡ u
          → Unread r names letters n p
      room {nm} is false q u v = told (short is (inl (leb-false (length nm) names q)))
      room {own-letters = own-letters} is true q false v = told (short is (inr (leb-false (length own-letters) letters v)))
      room {nm} {own-letters} is true q true v =
          let says = record_given is (leb-true (length nm) names q) (leb-true (length own-letters) letters v) in
          absurd (given_not_refused (sym says ∙ e))

      go : Judged r → Unread r names letters n p
      go (keeps {name = nm} {ls = own-letters} is) = room is (leb (length nm) names) refl (leb (length own-letters) letters) refl
      go (breaks d) = told (departs d)

-- a record departs in no way
pub record_keeps : {r name ls : List ℕ} {n p : ℕ} → IsRecord r name ls → Departs r n p → ⊥
record_keeps {r} {name = nm} {ls = own-letters} is d =
    let says = record_given {names = length nm} {letters = length own-letters} is (omega arith) (omega arith) in
    given_not_refused (sym says ∙ departs_refused r (length nm) (length own-letters) d)

-- and what departs does so in one way
pub departs_one : {r : List ℕ} {n p m q : ℕ} → Departs r n p → Departs r m q → (n ≡ m) × (p ≡ q)
departs_one {r} d e = refusal_parts (sym (departs_refused r 0 0 d) ∙ departs_refused r 0 0 e)

module _ {r a b a' b' : List ℕ} {q : Answer (ℕ × ℕ)} (did : Reads r a b q a' b') {n p : ℕ} where
  -- a refusal says why
  pub refused_unread : q ≡ refused n p → Unread r (length a) (length b) n p
  refused_unread says = why_unread r (length a) (length b) (sym did.answer ∙ says)

  -- and what is so is refused
  pub unread_is_refused : Unread r (length a) (length b) n p → q ≡ refused n p
  unread_is_refused why = did.answer ∙ unread_refused r (length a) (length b) why

  -- neither output differs
  pub read_untouched : q ≡ refused n p → (a' ≡ a) × (b' ≡ b)
  read_untouched says =
      let e : reading r (length a) (length b) ≡ refused n p = sym did.answer ∙ says in
      (rw e at did.in_name, rw e at did.in_letters)

-- ---- writing

unwritten_as : {name ls : List ℕ} {room n p m q : ℕ} → Unwritten name ls room m q → ◌≡◌ {A = Answer ℕ} (refused m q) (refused n p)
    → Unwritten name ls room n p
unwritten_as u e = let same = refusal_parts e in rw same.1 at (rw same.0 at u)

module _ (nm ls : List ℕ) (room : ℕ) where
  abbrev bytes : ℕ
  bytes = length (record_of nm ls)

  unwritten_refused : {n p : ℕ} → Unwritten nm ls room n p → writing nm ls room ≡ refused n p
  unwritten_refused (no_name h) = writing_unnamed nm ls room h
  unwritten_refused (no_letters named fault) =
      let own = of_fault fault in
      writing_unlettered nm ls room named own.0 ∙ ap (refused Letter) own.1
  unwritten_refused (no_room named lettered h) = writing_short nm ls room named lettered h

  why_unwritten : {n p : ℕ} → writing nm ls room ≡ refused n p → Unwritten nm ls room n p
  why_unwritten {n} {p} e = go_name (is_name nm) refl
    where
      told : {m q : ℕ} → Unwritten nm ls room m q → Unwritten nm ls room n p
      told u = unwritten_as u (sym (unwritten_refused u) ∙ e)

      go_room : is_name nm ≡ true → are_letters ls ≡ true → (t : Bool) → leb bytes room ≡ t → Unwritten nm ls room n p
      go_room named lettered false q = told (no_room named lettered (leb-false bytes room q))
      go_room named lettered true q =
          absurd (given_not_refused (sym (writing_given nm ls room named lettered (leb-true bytes room q)) ∙ e))

      go_letters : is_name nm ≡ true → (t : Bool) → are_letters ls ≡ t → Unwritten nm ls room n p
      go_letters named false q = told (no_letters named (fault_of ls q))
      go_letters named true q = go_room named q (leb bytes room) refl

      go_name : (t : Bool) → is_name nm ≡ t → Unwritten nm ls room n p
      go_name false q = told (no_name q)
      go_name true q = go_letters q (are_letters ls) refl

module _ {nm ls before after : List ℕ} {w : Answer ℕ} (did : Writes nm ls before w after) {n p : ℕ} where
  pub refused_unwritten : w ≡ refused n p → Unwritten nm ls (length before) n p
  refused_unwritten says = why_unwritten nm ls (length before) (sym did.answer ∙ says)

  pub unwritten_is_refused : Unwritten nm ls (length before) n p → w ≡ refused n p
  unwritten_is_refused why = did.answer ∙ unwritten_refused nm ls (length before) why

  pub write_untouched : w ≡ refused n p → after ≡ before
  write_untouched says = rw (sym did.answer ∙ says) at did.bytes
