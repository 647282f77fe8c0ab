-- What `card2fasta` writes for the S2 card, from its bytes and all its builds; and by what is said of other cards, and other names, by
-- computation. Assumes nothing.
use mathlib.Core.Path.{◌≡◌, refl, sym}
use mathlib.Core.List.{List, [], ◌∷◌, ◌++◌, map}
use Prim.Native.Nat.{ℕ, ◌≤◌}
use native.Mathlib.Omega.{arith}
use lib.ListN.{replicate}
use Rattle.base_answers.specs.Answer.{Answer, given, refused, first}
use Rattle.base_lists.specs.Row.{row, in_turn}
use Rattle.base_letters.specs.Letters.{letters, letter_of, searched, code_of}
use Rattle.card_block.specs.Bytes.{two_at, four_at}
use Rattle.card_block.specs.Check.{sums_of, check_bytes, checks}
use Rattle.card_block.specs.Block.{block_at, index_of, block_tests}
use Rattle.card_entries.specs.declared.Format.{Format}
use Rattle.card_entries.specs.Slot.{slot_at}
use Rattle.card_entries.specs.Fault.{span, pair_holds, span_holds, places_hold, entry_tests}
use Rattle.card_entries.specs.Bounds.{most_entries}
use Rattle.card_layout.specs.Layout.{form_of, format_of, told_by, slot_of, head_spare, slots_spare, slots_on}
use Rattle.card_reader.specs.Reading.{field_tests, head_tests, slots_tests, later_tests, reading_order}
use Rattle.card_reader.specs.Fetching.{admission}
use Rattle.card_reader.proofs.Examples.{head_of, bytes_of}
use Rattle.card_reader.proofs.FetchingLaws.{admission_admits}
use Rattle.base_lists.specs.Members as lists
use Rattle.build_sequence.specs.Verdict.{no_build, Outcome, settled, unsettled}
use Rattle.build_sequence.specs.Tables.{stored_in, s1, s2}
use Rattle.span_theory.specs.Settling as spans
use Rattle.span_theory.proofs.Tables.{spans_settle}
use Rattle.base_text.specs.Text.{ascii, digits_in, decimal}
use Rattle.text_fasta.specs.Record.{leading, is_name, are_letters, in_lines, record_of}
use Rattle.text_fasta.specs.Writing.{writing}
use Rattle.build_card.specs.Building.{letters_in, Says, tells, on_spans}
use Rattle.build_card.proofs.CardLaws.{has_room}
use Rattle.program_lines.specs.Lines.{program_budget, letters_room, verdict_line}
use Rattle.program_converting.specs.declared.Lengths.{Lengths}
use Rattle.program_converting.specs.Converting.{Streams, on_output, on_errors, Converted}
use Rattle.program_converting.specs.Fasta.{fasta_by, ToFasta}
use Rattle.program_converting.proofs.ByVerdict.{sole_named}

-- ---- the S2 card: AC[0,0] CA[1,3] AG[1,2] GA[1,3], "Sole, ACAGA, 4"

unfoldable pub s2_card : List ℕ
unfolding head_of
s2_card =
    head_of 1 2 2 4 0 9 233
    ++ (bytes_of 1 0 0 ++ (bytes_of 4 1 3 ++ (bytes_of 2 1 2 ++ (bytes_of 8 1 3 ++ (replicate 476 0 ++ (1 ∷ 0 ∷ 27 ∷ 20 ∷ []))))))

abbrev s2_format : Format
s2_format = record { kind = span; l = 2; m = 4 }

s2_admitted : admission most_entries s2_card ≡ given s2_format
unfolding s2_card admission reading_order head_tests field_tests later_tests slots_tests first in_turn
    block_tests block_at checks check_bytes sums_of index_of two_at four_at form_of format_of head_spare slots_spare
    slot_at entry_tests places_hold span_holds pair_holds
s2_admitted = refl

-- its entries are those of the table
s2_slots : slots_on s2_card ≡ stored_in s2
unfolding s2_card format_of slot_of slot_at block_at two_at four_at row
s2_slots = refl

s2_says : Says most_entries s2_card program_budget (letters_room most_entries) (given (settled s2.verdict s2.placements))
s2_says =
    let had = admission_admits most_entries s2_card s2_admitted in
    let told : told_by s2_card ≡ s2_format = sym had.told in
    let fits : letters_in (told_by s2_card) ≤ letters_room most_entries = rw told (omega arith) in
    let o : Outcome = settled s2.verdict s2.placements in
    let means : spans.MeansSpan 2 (stored_in s2) program_budget o = (spans_settle s2 (lists.later lists.first)).1 program_budget (omega arith) in
    let holds = has_room most_entries s2_card (letters_room most_entries) had.order fits in
    tells {o = o} holds (rw (s2_slots, told) (on_spans refl means))

pub s2_record : {out err out' err' : List ℕ} {r : Lengths} → ToFasta most_entries s2_card (ascii "S2") out err r out' err'
    → Converted (on_output (ascii ">S2\nACAGA\n")) out err r out' err'
unfolding record_of in_lines in_turn letters letter_of is_name leading
s2_record did = sole_named did s2_says refl

-- ---- what is said, and a name

-- with all that it rests on open to computation
unfoldable written_for : List ℕ → Answer Outcome → Streams
unfolding fasta_by writing first record_of leading is_name are_letters code_of searched letters letter_of in_lines in_turn verdict_line decimal digits_in
written_for name a = fasta_by most_entries name a

abbrev sole_acaga : Answer Outcome
sole_acaga = given (settled s2.verdict 4)

-- a name has 1 to 40 bytes, and no space
pub names : map (λ name. fasta_by most_entries name sole_acaga)
    (ascii "S2" ∷ ascii ">" ∷ replicate 40 65 ∷ [] ∷ ascii "S 2" ∷ replicate 41 65 ∷ [])
    ≡ (
    on_output (ascii ">S2\nACAGA\n")
    ∷ on_output (ascii ">>\nACAGA\n")
    ∷ on_output (ascii ">" ++ (replicate 40 65 ++ ascii "\nACAGA\n"))
    ∷ on_errors (ascii "refused 20 0\n")
    ∷ on_errors (ascii "refused 20 0\n")
    ∷ on_errors (ascii "refused 20 0\n")
    ∷ []
    )
unfolding written_for
names = refl

-- the verdict and a refused card come before the name
pub others : map (fasta_by most_entries [])
    (given (settled s1.verdict 8) ∷ given (settled no_build 2) ∷ given (unsettled 1000000) ∷ refused 2 1 ∷ [])
    ≡ (
    on_errors (ascii "several ACAGA 8\n")
    ∷ on_errors (ascii "none 2\n")
    ∷ on_errors (ascii "unsettled 1000000\n")
    ∷ on_errors (ascii "refused 2 1\n")
    ∷ []
    )
unfolding written_for
others = refl
