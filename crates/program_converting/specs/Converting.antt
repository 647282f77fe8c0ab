-- What the programs `list2card` and `card2list` write (02, §2): a card or a probe list on standard output, and a refusal on standard error.
-- `limit` is the most entries that a card may have.
--   Streams                  == the bytes that a program writes on standard output and on standard error
--   on_output bytes, on_errors bytes
--                            == these bytes alone, on standard output and on standard error
--   by_answer bytes a         == what is written where a is answered: these bytes, or the line of the refusal
--   too_long                  == what is written of a list that is longer than the program takes
--   to_card limit list        == what `list2card` writes for a list
--   to_list limit card        == what `card2list` writes for a card
--   Converted written out err r out' err'
--                            == what is written stands at the start of two buffers that were `out` and `err`, has as many bytes as r says,
--                               and is followed by the buffers' own
-- Assumes nothing.
use Rattle.std.specs.Prelude.{◌≡◌, cond, List, [], ◌++◌, ℕ, length, leb}
use Rattle.base_answers.specs.Answer.{Answer, given, refused}
use Rattle.card_layout.specs.Layout.{size_of}
use Rattle.base_text.specs.Text.{ascii, decimal, refusal_line, Printed}
use Rattle.text_import.specs.Importing.{card_in, importing}
use Rattle.text_export.specs.Exporting.{list_of, exporting, list_room}
use Rattle.program_streams.specs.Input.{most_list}
use Rattle.program_converting.specs.declared.Lengths.{Lengths}

pub record Streams : Type 0 where
  pub output : List ℕ
  pub errors : List ℕ

abbrev pub on_output : List ℕ → Streams
on_output bytes = record { output = bytes; errors = [] }

abbrev pub on_errors : List ℕ → Streams
on_errors bytes = record { output = []; errors = bytes }

abbrev pub by_answer : List ℕ → Answer ℕ → Streams
by_answer bytes (given n) = on_output bytes
by_answer bytes (refused n p) = on_errors (refusal_line n p)

unfoldable pub too_long : List ℕ
too_long = ascii "list2card: more than " ++ (decimal most_list ++ ascii " bytes\n")

-- with room for the longest card
unfoldable pub to_card : ℕ → List ℕ → Streams
to_card limit list =
    cond (leb (length list) most_list) (by_answer (card_in list) (importing limit list (size_of limit))) (on_errors too_long)

-- with room for the list of every card
unfoldable pub to_list : ℕ → List ℕ → Streams
to_list limit card = by_answer (list_of card) (exporting limit card (list_room limit))

pub record Converted (written : Streams) (out err : List ℕ) (r : Lengths) (out' err' : List ℕ) : Type 0 where
  pub to_output : Printed (λ bytes. bytes ≡ written.output) out r.output out'
  pub to_errors : Printed (λ bytes. bytes ≡ written.errors) err r.errors err'
