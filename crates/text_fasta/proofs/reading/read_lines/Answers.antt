-- `read_lines` meets its contract. Assumes nothing.
use mathlib.Core.Path.{◌≡◌, ap, ◌∙◌}
use mathlib.Core.Bool.{true}
use mathlib.Core.List.{List}
use Prim.Native.Nat.{ℕ, ◌+◌, ◌-◌, ◌/◌, ◌≤◌}
use native.Mathlib.Omega.{arith}
use lib.ListN.{length}
use Rattle.base_text.proofs.PuttingLaws.{put_as}
use Rattle.text_fasta.specs.Reading.{is_headed, name_length, body_in, letters_in}
use Rattle.text_fasta.specs.Record.{line_letters}
use Rattle.text_fasta.specs.Inner.{is_body}
use Rattle.text_fasta.proofs.HeadLaws.{headed_room, name_part, body_part}
use Rattle.text_fasta.proofs.LinedLaws.{is_body_lem, letters_among}
use Rattle.text_fasta.proofs.AnswerLaws.{no_room_name, no_room_letters, record_read}
use Rattle.text_fasta.proofs.reading.read_lines.Goals as goal
use Rattle.text_fasta.proofs.reading.read_lines.Goals.{then-name-n-via-then-name-n, then-name-n-via-else-name-n+then-letters-k}

-- the record goes on after the name's line
goes_on : (n : ℕ) (r : List ℕ) → is_headed r ≡ true → n ≡ name_length r → n + 2 ≤ length r
goes_on n r h e = omega (arith, headed_room r h, e)

-- the letters of its body are counted
counted : (k : ℕ) (xs r : List ℕ) → xs ≡ body_in r → is_body (body_in r) ≡ true
    → k ≡ length xs - ((length xs - 1) / (line_letters + 1) + 1) → k ≡ length (letters_in (body_in r))
counted k xs r same held e = e ∙ rw same (letters_among (body_in r) held).1

-- ---- the goals

pub overflow_add-at : goal.overflow_add-at
overflow_add-at c = omega (arith, goes_on _ _ c.requires.0 c.requires.1)

pub slice_bounds-body-count : goal.slice_bounds-body-count
slice_bounds-body-count c = goes_on _ _ c.requires.0 c.requires.1

pub slice_bounds-body-start : goal.slice_bounds-body-start
slice_bounds-body-start c = goes_on _ _ c.requires.0 c.requires.1

pub letters_among-k-requires : goal.letters_among-k-requires
letters_among-k-requires c =
    let r = c.args.bytes.now in
    rw (body_part r c.requires.1) (letters_among (body_in r) c.requires.2).0

pub returns-then-name-n : goal.returns-then-name-n
returns-then-name-n c =
    elim c.then-name-n.branch [
      | then-name-n-via-then-name-n w ↦ no_room_name _ _ _ c.requires.0 c.requires.2 c.requires.1 w.if-name-n.true
      | then-name-n-via-else-name-n+then-letters-k w ↦
          no_room_letters _ _ _ c.requires.0 c.requires.2 c.requires.1 (counted _ _ c.args.bytes.now (body_part _ c.requires.1) c.requires.2 c.letters_among-k.ensures) w.if-letters-k.true
    ]

pub slice_bounds-put_text-end : goal.slice_bounds-put_text-end
slice_bounds-put_text-end c = omega (arith, goes_on _ _ c.requires.0 c.requires.1)

pub put_letters-requires : goal.put_letters-requires
put_letters-requires c =
    let r = c.args.bytes.now in
    let same = body_part r c.requires.1 in
    (rw same (is_body_lem (body_in r) c.requires.2).1, rw same (omega (arith, c.if-letters-k.false, counted _ _ c.args.bytes.now (body_part _ c.requires.1) c.requires.2 c.letters_among-k.ensures)))

pub returns : goal.returns
returns c =
    let r = c.args.bytes.now in
    record_read r _ _ c.requires.0 c.requires.2 c.requires.1 (counted _ _ c.args.bytes.now (body_part _ c.requires.1) c.requires.2 c.letters_among-k.ensures) c.if-name-n.false c.if-letters-k.false
    (put_as c.put_text.ensures (name_part r c.requires.1))
    (put_as c.put_letters.ensures (ap letters_in (body_part r c.requires.1)))
