-- Each answer as a struct of numbers, for C. A refusal has its number and place, and every other field is 0; what is given has number 0
-- and place 0.
--   shape_of ps         == the allowed places ps: shape 1 for "one place", 2 for "two places", 3 for "a span"
--   admit_answer r      == admitting: kind, l and m
--   entry_answer r      == fetching an entry: its word and its places
--   step_answer r       == a step of the reading head: the entry and the moved head, or the end
--   held_answer r       == the companion of a fetch
--   part_answer k r     == fetching block k: where in the card it starts, and its bytes
--   write_answer r      == writing and importing: the card's length; exporting: the list's; writing a FASTA record: the record's
--   fasta_answer r      == reading a FASTA record: the lengths of its name and of its letters
-- Build and the number of builds have their own files, `Building` and `Counting`. Assumes nothing.
use Rattle.std.specs.Prelude.{ℕ, ◌*◌}
use Rattle.base_answers.specs.Answer.{Answer, given, refused, Sound, sound}
use Rattle.card_block.specs.Block.{block_bytes}
use Rattle.card_entries.specs.declared.Format.{Format}
use Rattle.card_entries.specs.declared.Entry.{Entry}
use Rattle.card_entries.specs.declared.Places.{Places}
use Rattle.card_entries.specs.declared.Places.TheVariants.{One, Two, Span}
use Rattle.card_reader.specs.Fetching.{Next, more, end}
use Rattle.firmware.specs.declared.Shape.{Shape}
use Rattle.firmware.specs.declared.AdmitAnswer.{AdmitAnswer}
use Rattle.firmware.specs.declared.EntryAnswer.{EntryAnswer}
use Rattle.firmware.specs.declared.StepAnswer.{StepAnswer}
use Rattle.firmware.specs.declared.HeldAnswer.{HeldAnswer}
use Rattle.firmware.specs.declared.PartAnswer.{PartAnswer}
use Rattle.firmware.specs.declared.writing.WriteAnswer.{WriteAnswer}
use Rattle.firmware.specs.declared.record.FastaAnswer.{FastaAnswer}

-- "one place, two places, or a span"
abbrev pub shape_of : Places → Shape
shape_of (One p) = record { shape = 1; first = p; second = 0 }
shape_of (Two p q) = record { shape = 2; first = p; second = q }
shape_of (Span f g) = record { shape = 3; first = f; second = g }

-- "Admitting a card answers kind, l and m"
abbrev pub admit_answer : Answer Format → AdmitAnswer
admit_answer (given f) = record { number = 0; place = 0; kind = f.kind; l = f.l; m = f.m }
admit_answer (refused n p) = record { number = n; place = p; kind = 0; l = 0; m = 0 }

abbrev pub entry_answer : Answer Entry → EntryAnswer
entry_answer (given e) =
    let s = shape_of e.places in
    record { number = 0; place = 0; shape = s.shape; word = e.word; first = s.first; second = s.second }
entry_answer (refused n p) = record { number = n; place = p; shape = 0; word = 0; first = 0; second = 0 }

-- "hands back the entry with the head moved one on, or says the end is reached"
abbrev pub bare_step : ℕ → ℕ → StepAnswer
bare_step n p = record { number = n; place = p; shape = 0; word = 0; first = 0; second = 0; next = 0 }

abbrev pub step_answer : Answer Next → StepAnswer
step_answer (given (more e next)) =
    let s = shape_of e.places in
    record { number = 0; place = 0; shape = s.shape; word = e.word; first = s.first; second = s.second; next = next }
step_answer (given end) = bare_step 0 0
step_answer (refused n p) = bare_step n p

-- "answers that the fetch holds, or the refusal with its number and place"
abbrev pub held_answer : Answer Sound → HeldAnswer
held_answer (given sound) = record { number = 0; place = 0 }
held_answer (refused n p) = record { number = n; place = p }

-- "those 512 bytes of the lent card themselves", or "an empty part on refusal"
abbrev pub part_answer : ℕ → Answer Sound → PartAnswer
part_answer k (given sound) = record { at = block_bytes * k; length = block_bytes }
part_answer k (refused n p) = record { at = 0; length = 0 }

-- "the writer answers the card's length in bytes"
abbrev pub write_answer : Answer ℕ → WriteAnswer
write_answer (given n) = record { number = 0; place = 0; length = n }
write_answer (refused n p) = record { number = n; place = p; length = 0 }

-- request 1: "gives name and letters again"
abbrev pub fasta_answer : Answer (ℕ × ℕ) → FastaAnswer
fasta_answer (given (n, k)) = record { number = 0; place = 0; name = n; letters = k }
fasta_answer (refused n p) = record { number = n; place = p; name = 0; letters = 0 }
