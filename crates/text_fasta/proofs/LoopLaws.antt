-- Laws of the loops: letters counted, letters put in lines, lines looked at one by one, and their letters put. Assumes nothing.
use mathlib.Core.Path.{◌≡◌, refl, sym, ap, ◌∙◌}
use mathlib.Core.Bool.{Bool, true, false, ◌&&◌}
use mathlib.Core.List.{List, [], ◌∷◌, ◌++◌, append_assoc, append-nil}
use mathlib.Core.Logic.{◌⊎◌, inl, inr}
use Prim.Native.Nat.{ℕ, suc, ◌+◌, ◌-◌, ◌≤◌, ◌<◌}
use native.Mathlib.Numerals.{add-one}
use native.Mathlib.Omega.{arith}
use lib.ListN.{length, get_or, take, drop, length-append, drop_of_length-le}
use lib.Seq.{drop-cons, split_at, take_at, drop_at, get_or_at, append_snoc, length-take-le}
use lib.Dec.{eqb, ltb}
use borrow.Author.Tests.{ltb-true, lt-ltb, eqb-true, eq-eqb}
use denote.Bor.{Bor}
use denote.Param.Members.{Mut, Called}
use Rattle.std.specs.declared.slice.Chunks.{Chunks}
use Rattle.std.specs.Prelude.{Option, Some, None, MatchOption, min}
use Rattle.std.specs.List.{FoldsTo}
use Rattle.std.specs.Iterator.{Yields, YieldsThen}
use Rattle.std.specs.Slice.Iter.{chunks_rest, chunks_size, chunks_steps}
use Rattle.std.proofs.lemmas.Bool.{cases_lt}
use Rattle.std.proofs.lemmas.List.{nil_from_length}
use Rattle.base_lists.proofs.TestLaws.{both}
use Rattle.base_text.specs.Putting.{Put}
use Rattle.base_text.proofs.PuttingLaws.{length_put, put_nothing, put_then, put_as}
use Rattle.base_letters.specs.Letters.{is_letter}
use Rattle.base_letters.proofs.Inverse.{letter_capital}
use Rattle.text_fasta.specs.Record.{newline, line_letters, leading, are_all, in_lines}
use Rattle.text_fasta.specs.Reading.{letters_in, are_lines}
use Rattle.text_fasta.specs.Inner.{is_line, is_body}
use Rattle.text_fasta.proofs.LineLaws.{lines_none, full, last, lines_cut}
use Rattle.text_fasta.proofs.BodyLaws.{not_both, Lined, lines_lined, no_break_lem, letters_none, letters_break, letters_other}
use Rattle.text_fasta.proofs.LinedLaws.{EndsAt, full_at, last_at, first_line_lem, Body, none_body, Starts, body_starts, starts_body, body_is, not_body}

-- ---- a piece of a list: as many as are asked for, or all that are left

pub record Piece (n : ℕ) (bs x later : List ℕ) : Type 0 where
  pub parts : bs ≡ x ++ later
  pub long : length x ≡ min n (length bs)
  pub some : 0 < length bs

-- as the library cuts one off
pub piece_of : {A : Type 0} {n m : ℕ} {bs x later : List ℕ} → m ≡ n
    → A × ((bs ≡ x ++ later) × (length x ≡ min m (length bs)) × (0 < length bs)) → Piece n bs x later
piece_of size steps = record { parts = steps.1.0; long = rw size at steps.1.1; some = steps.1.2 }

-- ---- letters put in lines

-- the letters before `rest` are put
pub record Lining (ls : List ℕ) (at : ℕ) (before : List ℕ) (to : ℕ) (rest out : List ℕ) : Type 0 where
  pub room : at + length (in_lines ls) ≤ length before
  pub done : List ℕ
  pub put : Put done at before to out
  pub left : done ++ in_lines rest ≡ in_lines ls

-- the next line, and those after it
lined_piece : {bs x later : List ℕ} → Piece line_letters bs x later → in_lines bs ≡ x ++ (newline ∷ in_lines later)
lined_piece {bs} {x} {later} piece =
    let sum = ap length piece.parts ∙ length-append x later in
    let some : 0 < length x = omega (arith, piece.long, piece.some) in
    ap in_lines piece.parts
    ∙ lines_cut x later some
    (elim (cases_lt (length bs) line_letters) [
      | inl short ↦ last (omega (arith, piece.long)) (nil_from_length later (omega (arith, piece.long, sum)))
      | inr enough ↦ full (omega (arith, piece.long))
    ])

module _ {ls before : List ℕ} {at : ℕ} where
  pub lining_none : at + length (in_lines ls) ≤ length before → Lining ls at before at ls before
  lining_none h = record { room = h; done = []; put = put_nothing before at (omega arith); left = refl }

  module _ {to : ℕ} {rest out : List ℕ} (so_far : Lining ls at before to rest out) where
    pub lining_length : length out ≡ length before
    lining_length = length_put so_far.put

    module _ {x later : List ℕ} (piece : Piece line_letters rest x later) where
      -- the next line and its end fit
      pub lining_room : to + length x < length out
      lining_room =
          omega (
            arith,
            so_far.room,
            so_far.put.ends,
            lining_length,
            ap length so_far.left,
            length-append so_far.done (in_lines rest),
            ap length (lined_piece piece),
            length-append x (newline ∷ in_lines later),
          )

      pub lining_turn : {next : ℕ} {after : List ℕ} → Put (x ++ (newline ∷ [])) to out next after → Lining ls at before next later after
      lining_turn put = record {
        room = so_far.room;
        done = so_far.done ++ (x ++ (newline ∷ []));
        put = put_then so_far.put put;
        left =
            append_assoc so_far.done (x ++ (newline ∷ [])) (in_lines later)
            ∙ ap (λ (xs : List ℕ). so_far.done ++ xs) (append_assoc x (newline ∷ []) (in_lines later) ∙ sym (lined_piece piece))
            ∙ so_far.left;
      }

    pub lining_all : length rest ≡ 0 → Put (in_lines ls) at before to out
    lining_all h =
        let none : in_lines rest ≡ [] = ap in_lines (nil_from_length rest h) ∙ lines_none in
        put_as so_far.put (sym (append-nil so_far.done) ∙ ap (λ (xs : List ℕ). so_far.done ++ xs) (sym none) ∙ so_far.left)

-- ---- the lines of a body

-- what is left of a body has a first line
module _ {bs x later : List ℕ} (piece : Piece (line_letters + 1) bs x later) where
  abbrev e : ℕ
  e = length x - 1

  abbrev xs : List ℕ
  xs = take e x

  some : 0 < length x
  some = omega (arith, piece.long, piece.some)

  long : length xs ≡ e
  long = length-take-le e x (omega arith)

  past : length x ≡ e + 1
  past = omega (arith, some)

  whole : bs ≡ xs ++ (get_or x e 0 ∷ later)
  whole =
      let none : drop (suc e) x ≡ [] = drop_of_length-le x {i = suc e} (omega arith) in
      let split : x ≡ xs ++ (get_or x e 0 ∷ []) = split_at x e 0 (omega (arith, some)) ∙ ap (λ (ys : List ℕ). xs ++ (get_or x e 0 ∷ ys)) none in
      piece.parts ∙ ap (λ (ys : List ℕ). ys ++ later) split ∙ append_snoc xs (get_or x e 0) later

  front : take e bs ≡ xs
  front = ap (take e) whole ∙ take_at xs (get_or x e 0 ∷ later) e long

  there : get_or bs e 0 ≡ get_or x e 0
  there = ap (λ (ys : List ℕ). get_or ys e 0) whole ∙ get_or_at xs (get_or x e 0) later 0 e long

  rest_on : drop (e + 1) bs ≡ later
  rest_on = ap (drop (e + 1)) piece.parts ∙ drop_at x later (e + 1) past

  ends_at : EndsAt bs e
  ends_at =
      elim (cases_lt (length bs) (line_letters + 1)) [
        | inl short ↦ last_at (omega (arith, piece.long, piece.some)) (omega (arith, piece.long))
        | inr enough ↦ full_at (omega (arith, piece.long)) (omega (arith, piece.long))
      ]

  line_on : Lined bs → Lined later × (letters_in bs ≡ xs ++ letters_in later)
  line_on lined =
      let line = first_line_lem bs e lined piece.some ends_at in
      (rw rest_on at line.others, rw (front, rest_on) at line.letters)

  -- by what the code asks of it
  starts_there : is_line x ≡ true → Starts bs e
  starts_there is =
      let one = both (ltb 0 e) (eqb (get_or x e 0) newline && are_all is_letter xs) is in
      let two = both (eqb (get_or x e 0) newline) (are_all is_letter xs) one.1 in
      record {
        some = ltb-true 0 e one.0;
        break = there ∙ eqb-true (get_or x e 0) newline two.0;
        letters = ap (are_all is_letter) front ∙ two.1;
      }

  there_starts : Starts bs e → is_line x ≡ true
  there_starts starts =
      rw (lt-ltb 0 e starts.some, eq-eqb (get_or x e 0) newline (sym there ∙ starts.break)) (ap (are_all is_letter) (sym front) ∙ starts.letters)

  body_on : Body bs → (is_line x ≡ true) × Body later
  body_on body =
      let split = body_starts bs e body piece.some ends_at in
      (there_starts split.0, rw rest_on at split.1)

  body_back : is_line x ≡ true → Body later → Body bs
  body_back is after = starts_body bs e ends_at (starts_there is) (rw rest_on after)

-- the lines before `rest` are as they should be
pub record Looked (bs rest : List ℕ) : Type 0 where
  pub on : Body bs → Body rest
  pub back : Body rest → Body bs

module _ {bs : List ℕ} where
  pub looked_none : Looked bs bs
  looked_none = record { on = λ b. b; back = λ b. b }

  module _ {rest : List ℕ} (so_far : Looked bs rest) where
    module _ {x later : List ℕ} (piece : Piece (line_letters + 1) rest x later) where
      pub looked_turn : is_line x ≡ true → Looked bs later
      looked_turn is = record { on = λ b. (body_on piece (so_far.on b)).1; back = λ b. so_far.back (body_back piece is b) }

      pub looked_stop : is_line x ≡ false → false ≡ is_body bs
      looked_stop n = sym (not_body bs (λ b. not_both (body_on piece (so_far.on b)).0 n))

    looked_all : 0 < length bs → length rest ≡ 0 → true ≡ is_body bs
    looked_all some g = sym (body_is bs some (so_far.back (rw (nil_from_length rest g) none_body)))

-- by the library's `all` over the pieces, of a closure that says of each whether it is a line
module _ {F : Type 0} (g : Mut F (Bor (List ℕ) × Unit {0}) Bool)
    (says : (f f' : F) (x : Bor (List ℕ)) (t : Bool) → Called g f (x, tt) t f' → t ≡ is_line x.now) (bs : List ℕ) where
  record Still (s : Chunks ℕ) : Type 0 where
    size : chunks_size s ≡ line_letters + 1
    looked : Looked bs (chunks_rest s)

  still : (xs : List (Bor (List ℕ))) (s t : Chunks ℕ) (f f' : F) → Still s → Yields chunks_steps s xs t
      → FoldsTo (λ p x q. Called g p (x, tt) true q) f xs f' → Still t
  still [] s t f f' here same calls = rw same at here
  still (x ∷ later) s t f f' here steps calls =
      let next : Still steps.0 = record {
        size = steps.1.0 ∙ here.size;
        looked = looked_turn here.looked (piece_of here.size steps.1) (sym (says f calls.0 x true calls.1));
      } in
      still later steps.0 t calls.0 f' next steps.2 calls.2

  pub looked_by_all : (s u : Chunks ℕ) (f : F) (r : Bool) → 0 < length bs → chunks_size s ≡ line_letters + 1 → chunks_rest s ≡ bs
      → ((xs : List (Bor (List ℕ))) × (o : Option (Bor (List ℕ))) × (j : F) × YieldsThen chunks_steps s xs o u
      × FoldsTo (λ p x q. Called g p (x, tt) true q) f xs j × MatchOption o (r ≡ true) (λ x. (r ≡ false) × ((h : F) × Called g j (x, tt) false h)))
      → r ≡ is_body bs
  looked_by_all s u f r some size rest ran = go ran.1 last ran.3.2 ran.5
    where
      last : Still ran.3.0
      last = still ran.0 s ran.3.0 f ran.2 (record { size = size; looked = rw rest looked_none }) ran.3.1 ran.4

      go : (o : Option (Bor (List ℕ))) → Still ran.3.0 → chunks_steps ran.3.0 o u
          → MatchOption o (r ≡ true) (λ x. (r ≡ false) × ((h : F) × Called g ran.2 (x, tt) false h))
          → r ≡ is_body bs
      go None here step end = end ∙ looked_all here.looked some step.1.0
      go (Some x) here step stop =
          stop.0 ∙ looked_stop here.looked (piece_of here.size step) (sym (says ran.2 stop.1.0 x false stop.1.1))

-- the letters of the lines before `rest` are put
pub record Parting (bs before : List ℕ) (to : ℕ) (rest out : List ℕ) : Type 0 where
  pub room : length (letters_in bs) ≤ length before
  pub lined : Lined rest
  pub done : List ℕ
  pub put : Put done 0 before to out
  pub left : done ++ letters_in rest ≡ letters_in bs

module _ {bs before : List ℕ} where
  pub parting_none : are_lines bs ≡ true → length (letters_in bs) ≤ length before → Parting bs before 0 bs before
  parting_none lines h =
      record { room = h; lined = lines_lined bs lines; done = []; put = put_nothing before 0 (omega arith); left = refl }

  module _ {to : ℕ} {rest out : List ℕ} (so_far : Parting bs before to rest out) where
    pub parting_length : length out ≡ length before
    parting_length = length_put so_far.put

    module _ {x later : List ℕ} (piece : Piece (line_letters + 1) rest x later) where
      abbrev part : List ℕ
      part = take (length x - 1) x

      pub parting_room : to + length part ≤ length out
      parting_room =
          omega (
            arith,
            so_far.room,
            so_far.put.ends,
            parting_length,
            ap length so_far.left,
            length-append so_far.done (letters_in rest),
            ap length (line_on piece so_far.lined).1,
            length-append part (letters_in later),
          )

      pub parting_turn : {next : ℕ} {after : List ℕ} → Put part to out next after → Parting bs before next later after
      parting_turn put = record {
        room = so_far.room;
        lined = (line_on piece so_far.lined).0;
        done = so_far.done ++ part;
        put = put_then so_far.put put;
        left =
            append_assoc so_far.done part (letters_in later)
            ∙ ap (λ (ys : List ℕ). so_far.done ++ ys) (sym (line_on piece so_far.lined).1)
            ∙ so_far.left;
      }

    pub parting_all : length rest ≡ 0 → Put (letters_in bs) 0 before to out
    parting_all h =
        let none : letters_in rest ≡ [] = ap letters_in (nil_from_length rest h) ∙ letters_none in
        put_as so_far.put (sym (append-nil so_far.done) ∙ ap (λ (ys : List ℕ). so_far.done ++ ys) (sym none) ∙ so_far.left)

-- ---- letters counted

-- of the bytes before i, k are letters, and the others newlines
pub record Counting (bs : List ℕ) (k i : ℕ) : Type 0 where
  pub few : k ≤ i
  pub lead : leading is_letter (letters_in bs) ≡ k + leading is_letter (letters_in (drop i bs))
  pub many : length (letters_in bs) ≡ k + length (letters_in (drop i bs))

module _ {bs : List ℕ} where
  module _ {k i : ℕ} (so_far : Counting bs k i) where
    module _ (h : i < length bs) where
      here : drop i bs ≡ get_or bs i 0 ∷ drop (i + 1) bs
      here = rw (add-one i) (drop-cons bs i 0 h)

      pub counting_break : get_or bs i 0 ≡ newline → Counting bs k (i + 1)
      counting_break is =
          let same : letters_in (drop i bs) ≡ letters_in (drop (i + 1) bs) =
          ap letters_in (here ∙ ap (λ (b : ℕ). b ∷ drop (i + 1) bs) is) ∙ letters_break (drop (i + 1) bs) in
          record {
            few = omega (arith, so_far.few);
            lead = rw same at so_far.lead;
            many = rw same at so_far.many;
          }

      next : (get_or bs i 0 ≡ newline → ⊥) → letters_in (drop i bs) ≡ get_or bs i 0 ∷ letters_in (drop (i + 1) bs)
      next other = ap letters_in here ∙ letters_other (get_or bs i 0) (drop (i + 1) bs) (no_break_lem (get_or bs i 0) other)

      -- no letter is a newline
      pub counting_letter : is_letter (get_or bs i 0) ≡ true → Counting bs (k + 1) (i + 1)
      unfolding leading
      counting_letter is =
          let own = next (λ z. omega (arith, (letter_capital (get_or bs i 0) is).0)) in
          let more : leading is_letter (letters_in (drop i bs)) ≡ suc (leading is_letter (letters_in (drop (i + 1) bs))) = rw (own, is) refl in
          record {
            few = omega (arith, so_far.few);
            lead = omega (arith, so_far.lead, more);
            many = omega (arith, so_far.many, ap length own);
          }

      pub counting_stop : (get_or bs i 0 ≡ newline → ⊥) → is_letter (get_or bs i 0) ≡ false
          → (k ≡ leading is_letter (letters_in bs)) × ((k < length (letters_in bs)) ⊎ (length (letters_in bs) ≡ 0))
      unfolding leading
      counting_stop other is =
          let own = next other in
          let none : leading is_letter (letters_in (drop i bs)) ≡ 0 = rw (own, is) refl in
          (omega (arith, so_far.lead, none), inl (omega (arith, so_far.many, ap length own)))

    pub counting_all : length bs ≤ i → (k ≡ length (letters_in bs)) × (k ≡ leading is_letter (letters_in bs))
    unfolding leading
    counting_all h =
        let none : letters_in (drop i bs) ≡ [] = ap letters_in (drop_of_length-le bs h) ∙ letters_none in
        let first : leading is_letter (letters_in (drop i bs)) ≡ 0 = rw none refl in
        (omega (arith, so_far.many, ap length none), omega (arith, so_far.lead, first))
