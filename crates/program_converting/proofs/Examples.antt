-- The list of the words of GATTACA and its card, each to the other; the same list with places from 0, and with carriage returns, which are
-- refused; by computation. Assumes nothing.
use mathlib.Core.Path.{◌≡◌, refl}
use mathlib.Core.List.{List, [], ◌∷◌, ◌++◌}
use Prim.Native.Nat.{ℕ}
use lib.ListN.{replicate}
use Rattle.base_answers.specs.Answer.{first}
use Rattle.base_lists.specs.Row.{row, in_turn}
use Rattle.base_letters.specs.Letters.{letters, letter_of, searched, code_of}
use Rattle.card_block.specs.Bytes.{two_at, four_at, two_bytes, four_bytes}
use Rattle.card_block.specs.Check.{sums_of, check_bytes, checks}
use Rattle.card_block.specs.Block.{block_at, index_of, block_tests}
use Rattle.card_block.specs.Sealing.{checked, sealed}
use Rattle.card_entries.specs.Slot.{slot_at, slot_bytes, slot_from}
use Rattle.card_entries.specs.Fault.{pair_holds, span_holds, places_hold, entry_tests}
use Rattle.card_entries.specs.Bounds.{most_entries}
use Rattle.card_layout.specs.Layout.{form_of, format_of, slot_of, head_spare, slots_spare}
use Rattle.card_layout.specs.Card.{head_bytes, slots_bytes, own_bytes, blocks_of, card_of}
use Rattle.card_reader.specs.Reading.{field_tests, head_tests, slots_tests, later_tests, reading_order}
use Rattle.card_reader.proofs.Examples.{head_of, bytes_of}
use Rattle.card_lists.specs.Lists.{lists_tests}
use Rattle.base_text.specs.Text.{ascii, digits_in, decimal}
use Rattle.text_probes.specs.Line.{line_text}
use Rattle.text_probes.specs.Reading.{read_digits, read_number, read_marked, read_listed, read_codes, after, read_first, read_line}
use Rattle.text_probes.specs.Lines.{lines_of, is_line, line_of}
use Rattle.text_probes.specs.Testing.{known, said_tests, line_tests, text_tests}
use Rattle.text_import.specs.Importing.{card_in, importing}
use Rattle.text_export.specs.Exporting.{listed_for, exporting}
use Rattle.program_converting.specs.Converting.{Streams, on_output, on_errors, too_long, to_card, to_list}

abbrev gattaca : List ℕ
gattaca = ascii "GAT\t1-2\nATT\t1-3\nTTA\t2-4\nTAC\t3-5\nACA\t4-5\n"

-- its card, with the places from 0
unfoldable pub gattaca_card : List ℕ
unfolding head_of
gattaca_card =
    head_of 1 2 3 5 0 11 227
    ++ (bytes_of 35 0 1 ++ (bytes_of 15 0 2 ++ (bytes_of 60 1 3 ++ (bytes_of 49 2 4 ++ (bytes_of 4 3 4
    ++ (replicate 468 0 ++ (1 ∷ 0 ∷ 184 ∷ 122 ∷ [])))))))

-- ---- from a list

-- with all that it rests on open to computation
unfoldable from_list : List ℕ → Streams
unfolding to_card importing first in_turn text_tests line_tests said_tests known is_line line_of lines_of
    read_line read_first after read_codes read_listed read_marked read_number read_digits code_of searched letters
    lists_tests slot_from entry_tests places_hold span_holds pair_holds
    card_in card_of blocks_of own_bytes head_bytes slots_bytes slot_bytes sealed checked check_bytes sums_of two_bytes four_bytes decimal digits_in
from_list list = to_card most_entries list

pub gattaca_card_lem : to_card most_entries gattaca ≡ on_output gattaca_card
unfolding from_list gattaca_card
gattaca_card_lem = refl

pub from_0 : to_card most_entries (ascii "GAT\t0-1\nATT\t0-2\nTTA\t1-3\nTAC\t2-4\nACA\t3-4\n") ≡ on_errors (ascii "refused 26 1\n")
unfolding from_list
from_0 = refl

pub carriage_returns : to_card most_entries (ascii "GAT\t1-2\r\nATT\t1-3\r\nTTA\t2-4\r\nTAC\t3-5\r\nACA\t4-5\r\n")
    ≡ on_errors (ascii "refused 23 1\n")
unfolding from_list
carriage_returns = refl

-- ---- from a card

unfoldable from_card : List ℕ → Streams
unfolding to_list exporting reading_order head_tests field_tests later_tests slots_tests first in_turn row
    block_tests block_at checks check_bytes sums_of index_of two_at four_at form_of format_of head_spare slots_spare
    slot_at slot_of entry_tests places_hold span_holds pair_holds listed_for line_text letters letter_of decimal digits_in
from_card card = to_list most_entries card

pub gattaca_list : to_list most_entries gattaca_card ≡ on_output gattaca
unfolding from_card gattaca_card
gattaca_list = refl

-- ---- a list that is too long

pub too_long_line : too_long ≡ ascii "list2card: more than 1048576 bytes\n"
unfolding too_long decimal digits_in
too_long_line = refl
