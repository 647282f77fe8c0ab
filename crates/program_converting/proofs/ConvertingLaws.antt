-- Laws of what the programs write: by each answer of importing and exporting. No contract cites this file. Assumes nothing.
use mathlib.Core.Path.{◌≡◌, refl, sym, ap, ◌∙◌}
use mathlib.Core.List.{List, [], ◌++◌}
use Prim.Native.Nat.{ℕ, ◌≤◌, ◌<◌}
use lib.ListN.{length, drop}
use borrow.Author.Tests.{le-leb, lt-leb}
use Rattle.base_answers.specs.Answer.{Answer, given, refused, output_after}
use Rattle.card_layout.specs.Layout.{size_of}
use Rattle.base_text.specs.Text.{Printed}
use Rattle.base_text.specs.Putting.{Put}
use Rattle.base_text.proofs.PrintedLaws.{put_printed}
use Rattle.text_import.specs.Importing.{card_in, importing, Imports}
use Rattle.text_import.proofs.ImportingLaws.{card_long}
use Rattle.text_export.specs.Exporting.{list_of, exporting, list_room, Exports}
use Rattle.text_export.proofs.ExportLaws.{list_long}
use Rattle.program_streams.specs.Input.{most_list}
use Rattle.program_converting.specs.declared.Lengths.{Lengths}
use Rattle.program_converting.specs.Lined.{Lined}
use Rattle.program_converting.specs.Converting.{on_errors, by_answer, too_long, to_card, to_list, Converted}

-- ---- by an answer

nothing : (before : List ℕ) → Printed (λ bytes. bytes ≡ []) before 0 before
nothing before = record { bytes = []; prints = refl; count = refl; output = refl }

-- bytes on standard error alone
pub errors_written : {bytes err err' : List ℕ} {n : ℕ} (out : List ℕ) → Put bytes 0 err n err'
    → Converted (on_errors bytes) out err (record { output = 0; errors = n }) out err'
errors_written out put = record { to_output = nothing out; to_errors = put_printed refl put }

-- bytes that an answer gives, or the line of its refusal
pub answered : (bytes out : List ℕ) {out' err err' : List ℕ} {r : Lengths} (a : Answer ℕ) → out' ≡ output_after bytes out a
    → ((n : ℕ) → a ≡ given n → n ≡ length bytes)
    → Lined a err r err'
    → Converted (by_answer bytes a) out err r out' err'
answered bytes out (given n) after long did =
    let count = did.output ∙ long n refl in
    let output = after ∙ ap (λ (k : ℕ). bytes ++ drop k out) (sym count) in
    record { to_output = record { bytes = bytes; prints = refl; count = count; output = output }; to_errors = did.errors }
answered bytes out (refused n p) after long did =
    let output = after ∙ ap (λ (k : ℕ). drop k out) (sym did.output) in
    record { to_output = record { bytes = []; prints = refl; count = did.output; output = output }; to_errors = did.errors }

-- ---- `list2card`

pub card_answered : {limit : ℕ} {list out out' err err' : List ℕ} {a : Answer ℕ} {r : Lengths} → length out ≡ size_of limit
    → length list ≤ most_list
    → Imports limit list out a out'
    → Lined a err r err'
    → Converted (to_card limit list) out err r out' err'
unfolding to_card
card_answered {limit} {list} {out} room short did lined =
    let answer = importing limit list (length out) in
    rw (le-leb (length list) most_list short, sym room)
    (answered (card_in list) out answer did.bytes (λ n. card_long limit list (length out)) (rw did.answer at lined))

pub too_long_written : (limit : ℕ) (list out : List ℕ) {n : ℕ} {err err' : List ℕ} → most_list < length list → Put too_long 0 err n err'
    → Converted (to_card limit list) out err (record { output = 0; errors = n }) out err'
unfolding to_card
too_long_written limit list out long put =
    rw (lt-leb (length list) most_list long) (errors_written out put)

-- ---- `card2list`

pub list_answered : {limit : ℕ} {card out out' err err' : List ℕ} {a : Answer ℕ} {r : Lengths} → length out ≡ list_room limit
    → Exports limit card out a out'
    → Lined a err r err'
    → Converted (to_list limit card) out err r out' err'
unfolding to_list
list_answered {limit} {card} {out} room did lined =
    let answer = exporting limit card (length out) in
    rw (sym room) (answered (list_of card) out answer did.bytes (λ n. list_long limit card (length out)) (rw did.answer at lined))
