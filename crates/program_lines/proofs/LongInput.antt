-- The first bytes of the input, one more than the longest card has, are enough: they give the reports that all of it gives, since the reader
-- refuses both alike (`FrontLaws` of `card_reader`). Assumes nothing.
use mathlib.Core.Path.{◌≡◌, sym, ap, ◌∙◌}
use mathlib.Core.List.{List}
use Prim.Native.Nat.{ℕ}
use lib.ListN.{take}
use Rattle.base_answers.specs.Answer.{Answer, refused, sound, first}
use Rattle.base_answers.proofs.Laws.{given_not_refused}
use Rattle.card_entries.specs.declared.Format.{Format}
use Rattle.card_reader.specs.Reading.{reading_order}
use Rattle.card_reader.proofs.FrontLaws.{Alike, alike_told, enough, needed}
use Rattle.build_sequence.specs.Many.{Power}
use Rattle.build_sequence.specs.Verdict.{Outcome}
use Rattle.build_card.specs.Building.{build_tests, Says, tells, refuses}
use Rattle.build_card.proofs.CardLaws.{reader_refuses}
use Rattle.build_narrow.specs.Settling as settling
use Rattle.build_narrow.proofs.TestLaws as narrowing
use Rattle.build_count.specs.Counting.{OfCard}
use Rattle.build_count.specs.Counting as counting
use Rattle.build_count.proofs.CountingLaws.{tests_refuse}
use Rattle.program_streams.specs.Input.{program_bytes}
use Rattle.program_lines.specs.Lines.{letters_room, lines_of, ReportsBy, Reports}
use Rattle.program_lines.specs.SettleLines.{SettleReports}
use Rattle.program_lines.specs.CountLine.{CountReports}

-- ---- the lines of `build` and `settle`

module _ {limit : ℕ} {card other : List ℕ} (alike : Alike limit card other) where
  -- where the same is said of both, the same is printed
  reported_too : {Says SaysOther : Answer Outcome → Type 0} → ((a : Answer Outcome) → Says a → SaysOther a) → {bytes : List ℕ}
      → ReportsBy Says card bytes
      → ReportsBy SaysOther other bytes
  reported_too too r = record {
    said = r.said;
    says = too r.said r.says;
    printed = r.printed ∙ ap (λ (f : Format). lines_of f r.said) (alike_told alike);
  }

  building_refused : (room : ℕ)
      → (first (build_tests limit card room) sound ≡ refused alike.number alike.place)
      × (first (build_tests limit other room) sound ≡ refused alike.number alike.place)
  building_refused room = (reader_refuses limit card room alike.here, reader_refuses limit other room alike.there)

  pub said_too : {budget room : ℕ} {a : Answer Outcome} → Says limit card budget room a → Says limit other budget room a
  said_too {room} (tells e means) = absurd (given_not_refused (sym e ∙ (building_refused room).0))
  said_too {room} (refuses e) = refuses ((building_refused room).1 ∙ sym (building_refused room).0 ∙ e)

  settled_too : (room : ℕ) {a : Answer Outcome} → settling.OfCard limit card room a → settling.OfCard limit other room a
  settled_too room (settling.tells e m) =
      absurd (given_not_refused (sym e ∙ narrowing.tests_refuse _ _ (build_tests limit card room) (building_refused room).0))
  settled_too room (settling.refuses e) =
      settling.refuses
      (narrowing.tests_refuse _ _ (build_tests limit other room) (building_refused room).1
      ∙ sym (narrowing.tests_refuse _ _ (build_tests limit card room) (building_refused room).0)
      ∙ e)

-- what is printed for the first bytes is what is printed for all of it, and nothing else is
module _ (limit : ℕ) (card : List ℕ) {bytes : List ℕ} where
  pub front_enough : Reports limit (take (program_bytes limit) card) bytes → Reports limit card bytes
  front_enough = enough limit (λ one other alike. reported_too alike (λ a. said_too alike)) card

  pub front_needed : Reports limit card bytes → Reports limit (take (program_bytes limit) card) bytes
  front_needed = needed limit (λ one other alike. reported_too alike (λ a. said_too alike)) card

  pub settle_front_enough : SettleReports limit (take (program_bytes limit) card) bytes → SettleReports limit card bytes
  settle_front_enough = enough limit (λ one other alike. reported_too alike (λ a. settled_too alike (letters_room limit))) card

  pub settle_front_needed : SettleReports limit card bytes → SettleReports limit (take (program_bytes limit) card) bytes
  settle_front_needed = needed limit (λ one other alike. reported_too alike (λ a. settled_too alike (letters_room limit))) card

-- ---- `count_builds`

module _ {limit : ℕ} {card other : List ℕ} (alike : Alike limit card other) where
  counted_too : {a : Answer Power} → OfCard limit card a → OfCard limit other a
  counted_too (counting.tells e m) = absurd (given_not_refused (sym e ∙ tests_refuse (reading_order limit card) _ alike.here))
  counted_too (counting.refuses e) =
      counting.refuses
      (tests_refuse (reading_order limit other) _ alike.there ∙ sym (tests_refuse (reading_order limit card) _ alike.here) ∙ e)

  count_too : {bytes : List ℕ} → CountReports limit card bytes → CountReports limit other bytes
  count_too r = record { said = r.said; says = counted_too r.says; answer = r.answer }

module _ (limit : ℕ) (card : List ℕ) {bytes : List ℕ} where
  pub count_front_enough : CountReports limit (take (program_bytes limit) card) bytes → CountReports limit card bytes
  count_front_enough = enough limit (λ one other alike. count_too alike) card

  pub count_front_needed : CountReports limit card bytes → CountReports limit (take (program_bytes limit) card) bytes
  count_front_needed = needed limit (λ one other alike. count_too alike) card
