-- Laws of the reports of `build` and `settle`: what is printed by an answer and the letters that it left is what is printed by what is said
-- of the card. No contract cites this file. Assumes nothing.
use mathlib.Core.Path.{◌≡◌, refl, sym, ap}
use mathlib.Core.List.{List, ◌++◌}
use Prim.Native.Nat.{ℕ, ◌≤◌}
use lib.ListN.{length}
use Rattle.std.specs.Prelude.{Result, Ok, Err}
use Rattle.base_answers.specs.declared.Refusal.{Refusal}
use Rattle.base_answers.specs.Answer.{Answer, given, refused, number_of, place_of, says}
use Rattle.base_answers.proofs.Laws.{given_not_refused}
use Rattle.card_block.specs.Block.{block_bytes}
use Rattle.card_entries.specs.declared.Format.{Format}
use Rattle.card_layout.specs.Layout.{told_by}
use Rattle.card_reader.proofs.FetchingLaws.{order_admits}
use Rattle.build_sequence.specs.Verdict.{sole, several, no_build, Outcome, settled, unsettled}
use Rattle.build_card.specs.declared.BuildAnswer.{BuildAnswer}
use Rattle.build_card.specs.Building.{build_tests, Says, tells, refuses, answer_of, letters_after, Builds}
use Rattle.build_card.proofs.CardLaws.{order_held}
use Rattle.build_narrow.specs.Settling.{OfCard, SettlesInto}
use Rattle.build_narrow.specs.Settling as settling
use Rattle.build_narrow.proofs.TestLaws.{tests_hold}
use Rattle.base_text.specs.Text.{refusal_line, Printed}
use Rattle.base_text.specs.Putting.{Put}
use Rattle.base_text.proofs.PrintedLaws.{put_printed}
use Rattle.program_lines.specs.Lines.{program_budget, letters_room, card_line, lines_of, ReportsBy, Reports}
use Rattle.program_lines.specs.SettleLines.{SettleReports}
use Rattle.program_lines.specs.ByAnswer.{verdict_by, lines_by, Tellable}
use Rattle.program_lines.proofs.VerdictLaws.{verdict_said, length_said}

-- ---- the lines by an answer

lines_said : (f : Format) (before : List ℕ) (a : Answer Outcome) → lines_by f (answer_of a) (letters_after a before) ≡ lines_of f a
unfolding lines_of
lines_said f before (given (settled (sole s) n)) = ap (◌++◌ (card_line f)) (verdict_said before (settled (sole s) n) refl)
lines_said f before (given (settled (several s) n)) = ap (◌++◌ (card_line f)) (verdict_said before (settled (several s) n) refl)
lines_said f before (given (settled no_build n)) = ap (◌++◌ (card_line f)) (verdict_said before (settled no_build n) refl)
lines_said f before (given (unsettled n)) = ap (◌++◌ (card_line f)) (verdict_said before (unsettled n) refl)
lines_said f before (refused n p) = refl

-- by the case of the answer
module _ (f : Format) (letters : List ℕ) {r : Result BuildAnswer Refusal} {out after : List ℕ} {n : ℕ} where
  pub refused_lines : {x : Refusal} → r ≡ Err x → Put (refusal_line (number_of x) (place_of x)) 0 out n after
      → Put (lines_by f (says r) letters) 0 out n after
  refused_lines e put = rw e put

  pub given_lines : {a : BuildAnswer} → r ≡ Ok a → Put (card_line f ++ verdict_by a letters) 0 out n after
      → Put (lines_by f (says r) letters) 0 out n after
  given_lines e put = rw e put

-- ---- what was answered, and the letters after it

module _ (before : List ℕ) (said : Answer Outcome) {card letters : List ℕ} {r : Answer BuildAnswer} (answer : r ≡ answer_of said)
    (output : letters ≡ letters_after said before) where
  said_tellable : ((b : BuildAnswer) → answer_of said ≡ given b → block_bytes ≤ length card) → Tellable card r letters
  said_tellable there =
      rw (answer, output) (record { there = there; letters_there = λ b. length_said before said })

  said_reported : (Says : Answer Outcome → Type 0) {out after : List ℕ} {n : ℕ} → Says said
      → Put (lines_by (told_by card) r letters) 0 out n after
      → Printed (ReportsBy Says card) out n after
  said_reported Says says put =
      put_printed (record { said = said; says = says; printed = rw (answer, output) (lines_said (told_by card) before said) }) put

-- ---- `build`

says_there : {limit budget room : ℕ} {card : List ℕ} {a : Answer Outcome} → Says limit card budget room a → (b : BuildAnswer)
    → answer_of a ≡ given b
    → block_bytes ≤ length card
says_there {limit} {room} {card} (tells e means) b is = (order_admits (order_held limit card room e)).head.there
says_there (refuses e) b is = absurd (given_not_refused (sym is))

module _ {limit : ℕ} {card before letters : List ℕ} {r : Answer BuildAnswer} (built : Builds limit card program_budget before r letters) where
  pub build_tellable : Tellable card r letters
  build_tellable = said_tellable before built.said built.answer built.output (says_there built.says)

  pub build_reported : {out after : List ℕ} {n : ℕ} → length before ≡ letters_room limit
      → Put (lines_by (told_by card) r letters) 0 out n after
      → Printed (Reports limit card) out n after
  build_reported room put =
      said_reported before built.said built.answer built.output (Says limit card program_budget (letters_room limit))
      (rw room at built.says) put

-- ---- `settle`

settled_there : (limit : ℕ) (card : List ℕ) (room : ℕ) {a : Answer Outcome} → OfCard limit card room a → (b : BuildAnswer)
    → answer_of a ≡ given b
    → block_bytes ≤ length card
settled_there limit card room (settling.tells e means) b is =
    (order_admits (order_held limit card room (tests_hold _ _ (build_tests limit card room) e).0)).head.there
settled_there limit card room (settling.refuses e) b is = absurd (given_not_refused (sym is))

module _ (limit : ℕ) (card before : List ℕ) {letters : List ℕ} {r : Answer BuildAnswer}
    (did : SettlesInto answer_of (OfCard limit card (length before)) before r letters) where
  pub settle_tellable : Tellable card r letters
  settle_tellable = said_tellable before did.said did.answer did.output (settled_there limit card (length before) did.says)

  pub settle_reported : {out after : List ℕ} {n : ℕ} → length before ≡ letters_room limit
      → Put (lines_by (told_by card) r letters) 0 out n after
      → Printed (SettleReports limit card) out n after
  settle_reported room put =
      said_reported before did.said did.answer did.output (OfCard limit card (letters_room limit)) (rw room at did.says) put
