-- A body that is letters in lines, line by line. Assumes nothing.
use mathlib.Core.Path.{◌≡◌, refl, sym, ap, ◌∙◌}
use mathlib.Core.Bool.{Bool, true, false, ◌&&◌}
use mathlib.Core.Logic.{inr}
use mathlib.Core.List.{List, [], ◌∷◌, ◌++◌}
use Prim.Native.Nat.{ℕ, suc, ◌+◌, ◌-◌, ◌/◌, ◌<◌}
use native.Mathlib.Numerals.{add-one}
use native.Mathlib.Omega.{arith}
use lib.ListN.{length, get_or, take, drop, length-append, length-drop, drop_of_length-le, take-append-drop}
use lib.Seq.{split_at, take_at, get_or_at, drop-append-add, length-take-le}
use Rattle.base_lists.proofs.TestLaws.{both}
use Rattle.base_letters.specs.Letters.{is_letter}
use Rattle.text_fasta.specs.Record.{newline, line_letters, are_all, are_letters, lines_for, in_lines}
use Rattle.text_fasta.specs.Reading.{letters_in, are_lines}
use Rattle.text_fasta.specs.Inner.{is_body}
use Rattle.text_fasta.proofs.LeadingLaws.{all_none, all_joined}
use Rattle.text_fasta.proofs.TestLaws.{letters_all, letters_held, letters_fail}
use Rattle.text_fasta.proofs.LineLaws.{lines_none, lines_more, Cut, full, last, lines_cut, by_lines, length_lines}
use Rattle.text_fasta.proofs.BodyLaws.{
  Lined,
  lines_lined,
  lined_lines,
  letters_none,
  letters_break,
  letters_joined,
  letters_few,
  Plain,
  plain_own,
  plain_letters,
  letters_plain,
  plain_take,
  plain_drop,
}

-- lines have the letters that they are of
pub letters_lines : (ls : List ℕ) → Plain ls → letters_in (in_lines ls) ≡ ls
letters_lines = by_lines (λ ls. Plain ls → letters_in (in_lines ls) ≡ ls) (λ h. rw lines_none letters_none) more
  where
    more : (ls : List ℕ) → 0 < length ls → (Plain (drop line_letters ls) → letters_in (in_lines (drop line_letters ls)) ≡ drop line_letters ls)
        → Plain ls → letters_in (in_lines ls) ≡ ls
    more ls h later plain =
        let xs = take line_letters ls in
        let rest = drop line_letters ls in
        ap letters_in (lines_more ls h)
        ∙ letters_joined xs (newline ∷ in_lines rest)
        ∙ ap (λ (zs : List ℕ). zs ++ letters_in (newline ∷ in_lines rest)) (plain_own xs (plain_take line_letters ls plain))
        ∙ ap (λ (zs : List ℕ). xs ++ zs) (letters_break (in_lines rest) ∙ later (plain_drop line_letters ls plain))
        ∙ take-append-drop line_letters ls

-- ---- the first line of a body

-- it ends before the byte e: it is full, or the body ends there
pub data EndsAt (bs : List ℕ) (e : ℕ) : Type 0 where
  full_at : e ≡ line_letters → e < length bs → EndsAt bs e
  last_at : suc e ≡ length bs → e < line_letters → EndsAt bs e

record Step (ls bs : List ℕ) (e : ℕ) : Type 0 where
  some : 0 < e
  there : get_or bs e 0 ≡ newline
  front : take e bs ≡ take line_letters ls
  rest : drop (e + 1) bs ≡ in_lines (drop line_letters ls)

step : (ls bs : List ℕ) (e : ℕ) → bs ≡ in_lines ls → 0 < length bs → EndsAt bs e → Step ls bs e
step ls bs e is some ends =
    let xs = take line_letters ls in
    let ys = in_lines (drop line_letters ls) in
    let long : length bs ≡ length ls + lines_for (length ls) = ap length is ∙ length_lines ls in
    let cut : bs ≡ xs ++ (newline ∷ ys) = is ∙ lines_more ls (omega (arith, long)) in
    let at : length xs ≡ e = found ends long in
    let past : e + 1 ≡ length xs + 1 = omega arith in
    record {
      some = omega (arith, at, long, parts, length-drop line_letters ls);
      there = ap (λ (zs : List ℕ). get_or zs e 0) cut ∙ get_or_at xs newline ys 0 e at;
      front = ap (take e) cut ∙ take_at xs (newline ∷ ys) e at;
      rest = ap (drop (e + 1)) cut ∙ ap (λ (k : ℕ). drop k (xs ++ (newline ∷ ys))) past ∙ drop-append-add xs (newline ∷ ys) 1;
    }
  where
    parts : length (take line_letters ls) + length (drop line_letters ls) ≡ length ls
    parts = sym (length-append (take line_letters ls) (drop line_letters ls)) ∙ ap length (take-append-drop line_letters ls)

    found : EndsAt bs e → length bs ≡ length ls + lines_for (length ls) → length (take line_letters ls) ≡ e
    found (full_at q h) long = omega (arith, parts, length-drop line_letters ls)
    found (last_at q h) long = omega (arith, parts, length-drop line_letters ls)

-- what is after the first line is lines too, and the letters are those of both
pub record Line (bs : List ℕ) (e : ℕ) : Type 0 where
  pub some : 0 < e
  pub break : get_or bs e 0 ≡ newline
  pub others : Lined (drop (e + 1) bs)
  pub letters : letters_in bs ≡ take e bs ++ letters_in (drop (e + 1) bs)

pub first_line_lem : (bs : List ℕ) (e : ℕ) → Lined bs → 0 < length bs → EndsAt bs e → Line bs e
first_line_lem bs e lined some ends =
    let ls = letters_in bs in
    let s = step ls bs e lined some ends in
    let own : letters_in (drop (e + 1) bs) ≡ drop line_letters ls =
    ap letters_in s.rest ∙ letters_lines (drop line_letters ls) (plain_drop line_letters ls (letters_plain bs)) in
    record {
      some = s.some;
      break = s.there;
      others = s.rest ∙ ap in_lines (sym own);
      letters =
          sym (take-append-drop line_letters ls)
          ∙ ap (λ (zs : List ℕ). zs ++ drop line_letters ls) (sym s.front)
          ∙ ap (λ (zs : List ℕ). take e bs ++ zs) (sym own);
    }

-- ---- letters in lines

pub record Body (bs : List ℕ) : Type 0 where
  pub lined : Lined bs
  pub lettered : are_all is_letter (letters_in bs) ≡ true

pub none_body : Body []
none_body = record { lined = sym (ap in_lines letters_none ∙ lines_none); lettered = ap (are_all is_letter) letters_none ∙ all_none is_letter }

-- its first line, and what is after it
pub record Starts (bs : List ℕ) (e : ℕ) : Type 0 where
  pub some : 0 < e
  pub break : get_or bs e 0 ≡ newline
  pub letters : are_all is_letter (take e bs) ≡ true

pub body_starts : (bs : List ℕ) (e : ℕ) → Body bs → 0 < length bs → EndsAt bs e → Starts bs e × Body (drop (e + 1) bs)
body_starts bs e body there ends =
    let line = first_line_lem bs e body.lined there ends in
    let rest = letters_in (drop (e + 1) bs) in
    let parts : (are_all is_letter (take e bs) && are_all is_letter rest) ≡ true =
    sym (all_joined is_letter (take e bs) rest) ∙ ap (are_all is_letter) (sym line.letters) ∙ body.lettered in
    let each = both (are_all is_letter (take e bs)) (are_all is_letter rest) parts in
    (record { some = line.some; break = line.break; letters = each.0 }, record { lined = line.others; lettered = each.1 })

-- a line before such a body
line_body : (xs rest : List ℕ) → 0 < length xs → Cut xs rest → are_all is_letter xs ≡ true → Body rest → Body (xs ++ (newline ∷ rest))
line_body xs rest some cut letters later =
    record {
      lined =
          sym
          (ap in_lines own
          ∙ lines_cut xs (letters_in rest) some (letters_cut cut)
          ∙ ap (λ (zs : List ℕ). xs ++ (newline ∷ zs)) (sym later.lined));
      lettered = ap (are_all is_letter) own ∙ all_joined is_letter xs (letters_in rest) ∙ rw (letters, later.lettered) refl;
    }
  where
    own : letters_in (xs ++ (newline ∷ rest)) ≡ xs ++ letters_in rest
    own =
        letters_joined xs (newline ∷ rest)
        ∙ ap (λ (zs : List ℕ). zs ++ letters_in (newline ∷ rest)) (plain_own xs (plain_letters xs letters))
        ∙ ap (λ (zs : List ℕ). xs ++ zs) (letters_break rest)

    letters_cut : Cut xs rest → Cut xs (letters_in rest)
    letters_cut (full e) = full e
    letters_cut (last few e) = last few (ap letters_in e ∙ letters_none)

pub starts_body : (bs : List ℕ) (e : ℕ) → EndsAt bs e → Starts bs e → Body (drop (e + 1) bs) → Body bs
starts_body bs e ends starts later = go ends
  where
    front : e < length bs → Cut (take e bs) (drop (e + 1) bs) → Body bs
    front h cut =
        let whole : bs ≡ take e bs ++ (newline ∷ drop (e + 1) bs) =
        rw (add-one e) (split_at bs e 0 h ∙ ap (λ (b : ℕ). take e bs ++ (b ∷ drop (suc e) bs)) starts.break) in
        rw whole
        (line_body (take e bs) (drop (e + 1) bs) (omega (arith, starts.some, length-take-le e bs (omega arith))) cut starts.letters later)

    go : EndsAt bs e → Body bs
    go (full_at q h) = front h (full (length-take-le e bs (omega arith) ∙ q))
    go (last_at q h) =
        front (omega arith)
        (last (omega (arith, length-take-le e bs (omega arith))) (drop_of_length-le bs {i = e + 1} (omega arith)))

-- ---- as the code has it

pub body_is : (bs : List ℕ) → 0 < length bs → Body bs → is_body bs ≡ true
unfolding is_body
body_is bs h body =
    let long = ap length body.lined ∙ length_lines (letters_in bs) in
    rw (letters_all (letters_in bs) (omega (arith, long)) body.lettered, lined_lines bs body.lined) refl

pub is_body_lem : (bs : List ℕ) → is_body bs ≡ true → (are_letters (letters_in bs) ≡ true) × (are_lines bs ≡ true)
unfolding is_body
is_body_lem bs e = both (are_letters (letters_in bs)) (are_lines bs) e

pub not_body : (bs : List ℕ) → (Body bs → ⊥) → is_body bs ≡ false
not_body bs n = go (is_body bs) refl
  where
    go : (t : Bool) → is_body bs ≡ t → is_body bs ≡ false
    go false q = q
    go true q =
        let held = is_body_lem bs q in
        absurd (n (record { lined = lines_lined bs held.1; lettered = (letters_held (letters_in bs) held.0).2 }))

pub nothing_body : (bs : List ℕ) → length bs ≡ 0 → false ≡ is_body bs
unfolding is_body
nothing_body bs h = rw (letters_fail (letters_in bs) (inr (omega (arith, letters_few bs)))) refl

-- a body of letters alone that is none has other lines
pub other_lines : (bs : List ℕ) → is_body bs ≡ false → are_letters (letters_in bs) ≡ true → are_lines bs ≡ false
unfolding is_body
other_lines bs e h = rw h at e

-- how many letters it has
pub letters_among : (bs : List ℕ) → is_body bs ≡ true
    → (0 < length bs) × (length bs - ((length bs - 1) / (line_letters + 1) + 1) ≡ length (letters_in bs))
letters_among bs e =
    let held = is_body_lem bs e in
    let some = (letters_held (letters_in bs) held.0).0 in
    let long = ap length (lines_lined bs held.1) ∙ length_lines (letters_in bs) in
    (omega (arith, some, long), omega (arith, some, long))
