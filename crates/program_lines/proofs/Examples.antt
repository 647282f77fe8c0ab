-- The two lines that 01 shows, "for the S1 card writes exactly", from the bytes of the card and all its builds; the lines of the other
-- answers; and those of `count_builds`. Assumes nothing.
use mathlib.Core.Path.{◌≡◌, refl, sym, ap}
use mathlib.Core.List.{List, [], ◌∷◌, map}
use Prim.Native.Nat.{◌≤◌}
use native.Mathlib.Omega.{arith}
use lib.ListN.{get_or}
use Rattle.base_answers.specs.Answer.{Answer, given, refused}
use Rattle.base_lists.specs.Row.{row}
use Rattle.base_letters.specs.Letters.{letters, letter_of}
use Rattle.card_block.specs.Bytes.{two_at, four_at}
use Rattle.card_block.specs.Block.{block_at}
use Rattle.card_entries.specs.declared.Format.{Format}
use Rattle.card_entries.specs.Fault.{pair, span}
use Rattle.card_entries.specs.Slot.{slot_at}
use Rattle.card_entries.specs.Bounds.{most_entries}
use Rattle.card_layout.specs.Layout.{format_of, told_by, slot_of, slots_on}
use Rattle.card_reader.specs.Fetching.{admission}
use Rattle.card_reader.proofs.FetchingLaws.{admission_admits}
use Rattle.card_reader.proofs.Examples.{head_of, admissions, admissions_right}
use Rattle.card_reader.proofs.Examples as card
use Rattle.base_lists.specs.Members.{first}
use Rattle.build_sequence.specs.Verdict.{no_build, Outcome, settled, unsettled}
use Rattle.build_sequence.specs.Many.{two_to, no_builds}
use Rattle.build_sequence.specs.Tables.{stored_in, s1, p2}
use Rattle.span_theory.specs.Settling.{MeansSpan}
use Rattle.span_theory.proofs.Tables.{spans_settle}
use Rattle.build_card.specs.Building.{letters_in, tells, on_spans}
use Rattle.build_card.proofs.CardLaws.{has_room}
use Rattle.base_text.specs.Text.{ascii, digits_in, decimal}
use Rattle.program_lines.specs.Lines.{program_budget, letters_room, kind_name, card_line, verdict_line, lines_of, Reports}
use Rattle.program_lines.specs.CountLine.{count_line}

-- ---- the S1 card

abbrev s1_format : Format
s1_format = record { kind = span; l = 2; m = 4 }

s1_lines : lines_of s1_format (given (settled s1.verdict s1.placements)) ≡ ascii "CARD span 2 4\nseveral ACAGA 8\n"
unfolding lines_of verdict_line card_line kind_name decimal digits_in letters letter_of
s1_lines = refl

s1_admitted : admission most_entries card.s1 ≡ given s1_format
unfolding admissions
s1_admitted = ap (λ (xs : List (Answer Format)). get_or xs 0 (refused 0 0)) admissions_right

-- its entries are those of the table
s1_slots : slots_on card.s1 ≡ stored_in s1
unfolding card.s1 head_of format_of slot_of slot_at block_at two_at four_at row
s1_slots = refl

pub s1_reports : Reports most_entries card.s1 (ascii "CARD span 2 4\nseveral ACAGA 8\n")
s1_reports =
    let had = admission_admits most_entries card.s1 s1_admitted in
    let told : told_by card.s1 ≡ s1_format = sym had.told in
    let fits : letters_in (told_by card.s1) ≤ letters_room most_entries = rw told (omega arith) in
    let o : Outcome = settled s1.verdict s1.placements in
    let means : MeansSpan 2 (stored_in s1) program_budget o = (spans_settle s1 first).1 program_budget (omega arith) in
    let holds = has_room most_entries card.s1 (letters_room most_entries) had.order fits in
    record {
      said = given o;
      says = tells {o = o} holds (rw (s1_slots, told) (on_spans refl means));
      printed = rw told (sym s1_lines);
    }

-- ---- the other answers

pub other_lines : map (lines_of (record { kind = pair; l = 12; m = 504 }))
    (
    given (settled p2.verdict 0)
    ∷ given (settled no_build 0)
    ∷ given (unsettled 1000000)
    ∷ refused 1 0
    ∷ refused 11 503
    ∷ refused 30 503
    ∷ []
    )
    ≡ (
    ascii "CARD pair 12 504\nsole ACAGA 0\n"
    ∷ ascii "CARD pair 12 504\nnone 0\n"
    ∷ ascii "CARD pair 12 504\nunsettled 1000000\n"
    ∷ ascii "refused 1 0\n"
    ∷ ascii "refused 11 503\n"
    ∷ ascii "refused 30 503\n"
    ∷ []
    )
unfolding lines_of verdict_line card_line kind_name decimal digits_in letters letter_of
other_lines = refl

-- ---- `count_builds`

pub count_lines : map count_line (given (two_to 0) ∷ given (two_to 126) ∷ given no_builds ∷ refused 5 0 ∷ refused 11 503 ∷ [])
    ≡ (ascii "builds 2^0\n" ∷ ascii "builds 2^126\n" ∷ ascii "builds 0\n" ∷ ascii "refused 5 0\n" ∷ ascii "refused 11 503\n" ∷ [])
unfolding decimal digits_in
count_lines = refl
