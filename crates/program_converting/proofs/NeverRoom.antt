-- With room for the longest card, for the list of every card and for the record of every build, 12 never comes: none of the three programs
-- writes `refused 12 0`. Assumes nothing.
use mathlib.Core.Path.{◌≡◌, refl, ap}
use mathlib.Core.Bool.{Bool, true, false, cond}
use mathlib.Core.List.{List}
use Prim.Native.Nat.{ℕ}
use Prim.Native.Char.{code}
use native.Mathlib.Omega.{arith}
use lib.ListN.{length}
use lib.Dec.{leb}
use Rattle.base_answers.specs.Numbers.{Room, Name}
use Rattle.base_answers.specs.Answer.{Answer, given, refused}
use Rattle.card_entries.specs.Bounds.{most_entries}
use Rattle.card_layout.specs.Layout.{size_of}
use Rattle.base_text.specs.Text.{refusal_line}
use Rattle.base_text.proofs.RefusalLaws.{refusal_begins, refusal_number}
use Rattle.text_import.specs.Importing.{card_in, importing}
use Rattle.text_import.proofs.Numbers.{importing_never}
use Rattle.text_export.specs.Exporting.{list_of, exporting, list_room}
use Rattle.text_export.proofs.ExportRoom.{exporting_never}
use Rattle.program_streams.specs.Input.{most_list}
use Rattle.build_sequence.specs.Verdict.{sole, several, no_build, Outcome, settled, unsettled}
use Rattle.text_fasta.specs.Record.{is_name}
use Rattle.build_card.specs.Building.{Says, refuses}
use Rattle.program_lines.specs.Lines.{program_budget, letters_room}
use Rattle.program_lines.proofs.VerdictLaws.{verdict_other}
use Rattle.program_lines.proofs.NeverRoom.{room_enough}
use Rattle.program_converting.specs.Converting.{on_errors, by_answer, too_long, to_card, to_list}
use Rattle.program_converting.specs.Fasta.{fasta_by}
use Rattle.program_converting.proofs.ByVerdict.{sole_lettered, named, unnamed}

-- what is not refused by 12 is not written as refused by it
answered_other : (bytes : List ℕ) (a : Answer ℕ) → ((p : ℕ) → a ≡ refused Room p → ⊥) → (q : ℕ) → (by_answer bytes a).errors ≡ refusal_line Room q → ⊥
answered_other bytes (given n) never q e = let z : 0 ≡ code "r" = refusal_begins Room q e in omega arith
answered_other bytes (refused n p) never q e = never p (ap (λ (k : ℕ). refused k p) (refusal_number n p Room q e))

-- ---- by `list2card` and `card2list`

module _ (limit : ℕ) (list : List ℕ) (p : ℕ) where
  abbrev answer : Answer ℕ
  answer = importing limit list (size_of limit)

  pub card_never : (to_card limit list).errors ≡ refusal_line Room p → ⊥
  unfolding to_card too_long
  card_never e = go (leb (length list) most_list) e
    where
      go : (t : Bool) → (cond t (by_answer (card_in list) answer) (on_errors too_long)).errors ≡ refusal_line Room p → ⊥
      go true e = answered_other (card_in list) answer (λ q is. importing_never limit list (size_of limit) (omega arith) is) p e
      go false e = let z : code "l" ≡ code "r" = refusal_begins Room p e in omega arith

pub list_never : (card : List ℕ) (p : ℕ) → (to_list most_entries card).errors ≡ refusal_line Room p → ⊥
unfolding to_list
list_never card p e =
    answered_other (list_of card) (exporting most_entries card (list_room most_entries)) (λ q is. exporting_never most_entries (omega arith) card is) p e

-- ---- by `card2fasta`

module _ (limit : ℕ) (card name : List ℕ) (q : ℕ) where
  sole_never : {s : List ℕ} {n : ℕ} → Says limit card program_budget (letters_room limit) (given (settled (sole s) n))
      → (fasta_by limit name (given (settled (sole s) n))).errors ≡ refusal_line Room q
      → ⊥
  sole_never {s} {n} says e = go (is_name name) refl
    where
      go : (t : Bool) → is_name name ≡ t → ⊥
      go true is =
          let z : 0 ≡ code "r" = refusal_begins Room q (rw (named limit name s n (sole_lettered says) is) at e) in
          omega arith
      go false other = let same : Name ≡ Room = refusal_number Name 0 Room q (rw (unnamed limit name s n other) at e) in omega arith

  pub fasta_never : {a : Answer Outcome} → Says limit card program_budget (letters_room limit) a
      → (fasta_by limit name a).errors ≡ refusal_line Room q
      → ⊥
  unfolding fasta_by
  fasta_never {a = given (settled (sole s) n)} says e = sole_never says e
  fasta_never {a = given (settled (several s) n)} says e = verdict_other (settled (several s) n) Room q e
  fasta_never {a = given (settled no_build n)} says e = verdict_other (settled no_build n) Room q e
  fasta_never {a = given (unsettled n)} says e = verdict_other (unsettled n) Room q e
  fasta_never {a = refused n p} (refuses stops) e =
      let same : n ≡ Room = refusal_number n p Room q e in
      omega (arith, room_enough limit card stops)
