-- Settling narrow span cards without a budget (02, section 11), from a card and from lists, into a lent output. `limit` is the most entries
-- that a card may have.
--   width_tests e es              == the tests of the widths of the entries es, of which the first is the entry e
--   lists_build_tests limit kind l words ones twos room
--                                == the tests of building from lists, in their order
--   settle_tests kind es ts       == the tests ts of building, and then those of the kind and of the widths
--   Settled ts kind l es a       == what is said of the entries es: an outcome that is true, or the refusal
--   OfCard limit card room a     == what is said of a card
--   OfLists limit kind l words ones twos room a
--                                == what is said of lists
--   SettlesInto form Says before r after
--                                == r is, in this form, an answer that Says holds of, and `after` is the output then, which was `before`
--   Unbudgeted r                 == the answer r is a verdict with placements 0, or a refusal
-- Assumes nothing.
use Rattle.std.specs.Prelude.{◌≡◌, List, [], ◌∷◌, ◌++◌, ℕ, suc, eqb, leb}
use Rattle.base_answers.specs.Numbers.{Kind, Room, Wider}
use Rattle.base_answers.specs.Answer.{Answer, given, refused, Test, test, first, sound}
use Rattle.card_entries.specs.declared.Slot.{Slot}
use Rattle.card_entries.specs.Slot.{entries_in}
use Rattle.card_entries.specs.Fault.{span}
use Rattle.card_layout.specs.Layout.{told_by, slots_on}
use Rattle.card_lists.specs.Lists.{lists_tests}
use Rattle.card_entries.specs.Hold.{format_for}
use Rattle.build_sequence.specs.Verdict.{Outcome}
use Rattle.span_layers.specs.Narrow.{is_narrow}
use Rattle.span_layers.specs.Settling.{MeansNarrow}
use Rattle.build_card.specs.declared.BuildAnswer.{BuildAnswer}
use Rattle.build_card.specs.declared.BuildAnswer.TheVariants.{Sole, Several, None, Unsettled}
use Rattle.build_card.specs.Building.{letters_in, build_tests, letters_after}

-- "30 Wider with the first entry over 4"
unfoldable pub width_tests : ℕ → List Slot → List Test
width_tests e [] = []
width_tests e (s ∷ es) = test (is_narrow s) Wider e ∷ width_tests (suc e) es

-- building from lists tests 5, 6, 13, 7, the entries in turn, and then 12, "below m+l−1 bytes, whichever verdict would follow"
unfoldable pub lists_build_tests : ℕ → ℕ → ℕ → List ℕ → List ℕ → List ℕ → ℕ → List Test
lists_build_tests limit kind l words ones twos room =
    lists_tests limit kind l words ones twos ++ (test (leb (letters_in (format_for kind l words)) room) Room 0 ∷ [])

-- "Refusals: after those of building from lists, 5 if a pair card, 30 Wider with the first entry over 4."
unfoldable pub settle_tests : ℕ → List Slot → List Test → List Test
settle_tests kind es ts = ts ++ (test (eqb kind span) Kind 0 ∷ width_tests 0 es)

-- "It answers Sole, Several or None with no budget, each meaning what demand 2 says of it whether or not build would settle"
pub data Settled (ts : List Test) (kind l : ℕ) (es : List Slot) : Answer Outcome → Type 0 where
  tells : {o : Outcome} → first (settle_tests kind es ts) sound ≡ given sound → MeansNarrow l es o → Settled ts kind l es (given o)
  refuses : {n p : ℕ} → first (settle_tests kind es ts) sound ≡ refused n p → Settled ts kind l es (refused n p)

abbrev pub OfCard : ℕ → List ℕ → ℕ → Answer Outcome → Type 0
OfCard limit card room = Settled (build_tests limit card room) (told_by card).kind (told_by card).l (slots_on card)

abbrev pub OfLists : ℕ → ℕ → ℕ → List ℕ → List ℕ → List ℕ → ℕ → Answer Outcome → Type 0
OfLists limit kind l words ones twos room = Settled (lists_build_tests limit kind l words ones twos room) kind l (entries_in words ones twos)

pub record SettlesInto {R : Type 0} (form : Answer Outcome → R) (Says : Answer Outcome → Type 0) (before : List ℕ) (r : R) (after : List ℕ)
    : Type 0 where
  pub said : Answer Outcome
  pub says : Says said
  pub answer : r ≡ form said
  pub output : after ≡ letters_after said before

-- "with no budget […] and its placements are 0"
abbrev pub Unbudgeted : Answer BuildAnswer → Type 0
Unbudgeted (given (Sole n k)) = k ≡ 0
Unbudgeted (given (Several n k)) = k ≡ 0
Unbudgeted (given (None k)) = k ≡ 0
Unbudgeted (given (Unsettled k)) = ⊥
Unbudgeted (refused n p) = Unit {0}
