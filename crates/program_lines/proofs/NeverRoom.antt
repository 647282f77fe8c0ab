-- With room for the longest sequence 12 never comes: what is refused is refused by the reader, whose numbers are below 12, or by 5 or 30, and
-- the line `refused 12 0` is never printed. Assumes nothing.
use mathlib.Core.Path.{◌≡◌, refl, sym, ap, ◌∙◌}
use mathlib.Core.Logic.{⊎_elim}
use mathlib.Core.List.{List, [], ◌∷◌, ◌++◌}
use Prim.Native.Nat.{ℕ, ◌/◌, ◌%◌, ◌<◌}
use Prim.Native.Char.{code}
use native.Mathlib.Omega.{arith}
use Rattle.base_answers.specs.Numbers.{Room}
use Rattle.base_answers.specs.Answer.{Answer, given, refused, Sound, sound, first}
use Rattle.base_answers.proofs.Laws.{given_not_refused}
use Rattle.card_entries.specs.declared.Format.{Format}
use Rattle.card_layout.specs.Layout.{told_by}
use Rattle.card_reader.specs.Reading.{reading_order}
use Rattle.card_reader.proofs.FetchingLaws.{order_admits}
use Rattle.card_reader.proofs.RefusalNumbers.{reader_below}
use Rattle.build_sequence.specs.Verdict.{Outcome}
use Rattle.build_card.specs.Building.{build_tests, Says, refuses}
use Rattle.build_card.proofs.CardLaws.{reader_refuses, has_room}
use Rattle.build_narrow.specs.Settling as settling
use Rattle.build_narrow.proofs.TestLaws as narrowing
use Rattle.build_count.specs.Counting.{OfCard}
use Rattle.build_count.specs.Counting as counting
use Rattle.build_count.proofs.CountingLaws.{refusals}
use Rattle.base_text.specs.Text.{ascii, digit, decimal, line, refusal_line}
use Rattle.program_lines.specs.Lines.{program_budget, letters_room, card_line, lines_of, Reports}
use Rattle.program_lines.specs.SettleLines.{SettleReports}
use Rattle.base_text.proofs.DecimalLaws.{decimal_one, decimal_more}
use Rattle.base_text.proofs.RefusalLaws.{refusal_begins, refusal_number}

-- ---- 12 is not due

module _ (limit : ℕ) (card : List ℕ) {n p : ℕ} where
  pub room_enough : first (build_tests limit card (letters_room limit)) sound ≡ refused n p → n < Room
  room_enough e = go (first (reading_order limit card) sound) refl
    where
      go : (a : Answer Sound) → first (reading_order limit card) sound ≡ a → n < Room
      go (given sound) held =
          let head = (order_admits held).head in
          let room = has_room limit card (letters_room limit) held (omega (arith, head.most, head.letters)) in
          absurd (given_not_refused (sym room ∙ e))
      go (refused k q) stops =
          let same : k ≡ n = cc (reader_refuses limit card (letters_room limit) stops) in
          rw same at (reader_below limit card sound stops)

said_below : {limit n p : ℕ} {card : List ℕ} → Says limit card program_budget (letters_room limit) (refused n p) → n < Room
said_below {limit} {card = card} (refuses e) = room_enough limit card e

pub never_said : {limit p : ℕ} {card : List ℕ} → Says limit card program_budget (letters_room limit) (refused Room p) → ⊥
never_said says = omega (arith, said_below says)

-- settling has one number above it
pub settle_never_said : (limit : ℕ) (card : List ℕ) {p : ℕ} → settling.OfCard limit card (letters_room limit) (refused Room p) → ⊥
settle_never_said limit card (settling.refuses e) =
    ⊎_elim (λ h. omega (arith, room_enough limit card h)) (λ h. ⊎_elim (λ k. omega (arith, k)) (λ k. omega (arith, k)) h.1)
    (narrowing.refusals _ _ (build_tests limit card (letters_room limit)) e)

-- nor from counting builds, which tests no room
pub count_never_said : (limit : ℕ) (card : List ℕ) {n p : ℕ} → OfCard limit card (refused n p) → n < Room
count_never_said limit card (counting.refuses e) =
    ⊎_elim (reader_below limit card sound) (λ h. omega (arith, h.1)) (refusals (reading_order limit card) _ e)

-- ---- nor is it printed

-- the line that is not printed
the_line : refusal_line Room 0 ≡ ascii "refused 12 0\n"
the_line =
    let twelve : decimal Room ≡ ascii "12" =
    decimal_more Room (omega arith) ∙ ap (λ (xs : List ℕ). xs ++ (digit (Room % 10) ∷ [])) (decimal_one (Room / 10) (omega arith)) in
    let none : decimal 0 ≡ ascii "0" = decimal_one 0 (omega arith) in
    λ i. line (ascii "refused") (twelve i ∷ none i ∷ [])

-- where what is said is not refused by 12
not_printed : (f : Format) (a : Answer Outcome) → ((p : ℕ) → a ≡ refused Room p → ⊥) → lines_of f a ≡ refusal_line Room 0 → ⊥
unfolding lines_of card_line
not_printed f (given o) never e = let z : code "C" ≡ code "r" = refusal_begins Room 0 e in omega arith
not_printed f (refused n p) never e = never p (ap (λ (k : ℕ). refused k p) (refusal_number n p Room 0 e))

pub never_printed : {limit : ℕ} {card bytes : List ℕ} → Reports limit card bytes → bytes ≡ ascii "refused 12 0\n" → ⊥
never_printed {card} reports e =
    not_printed (told_by card) reports.said (λ p is. never_said (rw is at reports.says)) (sym reports.printed ∙ e ∙ sym the_line)

pub settle_never_printed : (limit : ℕ) (card : List ℕ) {bytes : List ℕ} → SettleReports limit card bytes
    → bytes ≡ ascii "refused 12 0\n"
    → ⊥
settle_never_printed limit card reports e =
    not_printed (told_by card) reports.said (λ p is. settle_never_said limit card (rw is at reports.says))
    (sym reports.printed ∙ e ∙ sym the_line)
