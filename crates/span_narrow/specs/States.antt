-- States of the walk on a card whose places have few spans over them, by the marks of the place's list, and which of its entries lead on to
-- a build from there. A mark of 0 says that the entry is left.
--   cells_over                          == so many sets have the entries over a place
--   Sides plan marks lo hi             == each mark is 0 or 1, no entry that is left ends before the place lo, and each that begins at hi or
--                                         later is left
--   cell_of list marks i                == the cell of a state at the place i, whose list is `list`
--   dues_in twos marks i js             == how many of js are left and end at i
--   can_stand twos marks i dues j       == entry j is left, and no other that is left ends at i, where `dues` of them do
--   tried_at plan marks i               == what the walk tries at i, whatever the word before: of those that can stand and have one word the first
--   paths_after plan marks i j          == what the walk completes once entry j stands at i
--   paths_with plan marks i j           == the same with its word before each
--   agreeing words i want js           == those of js whose word may stand at i, after a word whose last letters are `want`
--   Chance plan marks i j              == entry j is tried at i, and leads on
--   Chances plan marks i c             == the digits of c pick those that are tried and lead on
--   is_kept plan marks keeps i          == `keeps` has a number above 0 in the cell of the state
--   KeepsNext plan keeps               == a state that follows on one that is kept is kept
--   HasChances plan marks table i      == the table has the chances of the state at i
--   Exact plan keeps table from        == of the states that are kept, from the place `from` on, the table has the chances
-- Assumes nothing.
use Rattle.std.specs.Prelude.{◌≡◌, Bool, true, ◌&&◌, not, ℕ, ◌+◌, ◌-◌, ◌*◌, ◌≤◌, ◌<◌, eqb, length, get_or, set}
use mathlib.Core.List.{List, ◌∷◌, map, flat_map}
use Rattle.std.proofs.Math.Option.{Option, some}
use Rattle.base_lists.specs.Members.{In, keep}
use Rattle.span_layers.specs.Completed.{paths, is_some}
use Rattle.span_memory.specs.Memory.{bits_of}
use Rattle.span_steps.specs.Steps.{no_word, is_left, agrees, is_due, tries, Wants}
use Rattle.span_narrow.specs.Digits.{bit, picked}
use Rattle.span_narrow.specs.Plan.{Plan, list_on, left_on}

abbrev pub cells_over : ℕ
cells_over = 128

pub record Sides (plan : Plan) (marks : List ℕ) (lo hi : ℕ) : Type 0 where
  pub marks_all : length marks ≡ length plan.words
  pub digits : (k : ℕ) → k < length plan.words → get_or marks k 0 ≤ 1
  pub past : (k : ℕ) → k < length plan.words → is_left marks k ≡ true → lo ≤ get_or plan.twos k 0
  pub ahead : (k : ℕ) → k < length plan.words → hi ≤ get_or plan.ones k 0 → is_left marks k ≡ true

abbrev pub cell_of : List ℕ → List ℕ → ℕ → ℕ
cell_of list marks i = cells_over * i + bits_of marks list

-- ---- what is tried at a place

abbrev pub dues_in : List ℕ → List ℕ → ℕ → List ℕ → ℕ
dues_in twos marks i js = length (keep (is_due twos marks i) js)

unfoldable pub can_stand : List ℕ → List ℕ → ℕ → ℕ → ℕ → Bool
can_stand twos marks i dues j = is_left marks j && eqb dues (bit (is_due twos marks i j))

abbrev pub tried_at : Plan → List ℕ → ℕ → List ℕ
tried_at plan marks i =
    tries (can_stand plan.twos marks i (dues_in plan.twos marks i (list_on plan i))) (λ j. get_or plan.words j 0) no_word (list_on plan i)

-- ---- what is completed from there

unfoldable pub paths_after : Plan → List ℕ → ℕ → ℕ → List (List ℕ)
paths_after plan marks i j =
    paths plan.l (length plan.words - (i + 1)) (i + 1) (some (get_or plan.words j 0)) (left_on plan (set marks j 1))

abbrev pub paths_with : Plan → List ℕ → ℕ → ℕ → List (List ℕ)
paths_with plan marks i j = map (λ ws. get_or plan.words j 0 ∷ ws) (paths_after plan marks i j)

abbrev pub agreeing : List ℕ → ℕ → ℕ → List ℕ → List ℕ
agreeing words i want js = keep (λ j. agrees i want (get_or words j 0)) js

pub record Chance (plan : Plan) (marks : List ℕ) (i j : ℕ) : Type 0 where
  pub tried : In j (tried_at plan marks i)
  pub leads : is_some (paths_after plan marks i j) ≡ true

pub record Chances (plan : Plan) (marks : List ℕ) (i c : ℕ) : Type 0 where
  pub all : (p : Option ℕ) (want : ℕ) → Wants plan.l i want p
      → paths plan.l (length plan.words - i) i p (left_on plan marks)
      ≡ flat_map (paths_with plan marks i) (agreeing plan.words i want (picked c (list_on plan i)))
  pub each : (j : ℕ) → In j (picked c (list_on plan i)) → Chance plan marks i j

-- ---- the table

abbrev pub is_kept : Plan → List ℕ → List ℕ → ℕ → Bool
is_kept plan marks keeps i = not (eqb (get_or keeps (cell_of (list_on plan i) marks i) 0) 0)

pub record KeepsNext (plan : Plan) (keeps : List ℕ) : Type 0 where
  pub next : (marks : List ℕ) (i j : ℕ) → i + 1 < length plan.words → Sides plan marks i (i + 1)
      → is_kept plan marks keeps i ≡ true
      → In j (tried_at plan marks i)
      → is_kept plan (set marks j 1) keeps (i + 1) ≡ true

abbrev pub HasChances : Plan → List ℕ → List ℕ → ℕ → Type 0
HasChances plan marks table i = Chances plan marks i (get_or table (cell_of (list_on plan i) marks i) 0)

pub record Exact (plan : Plan) (keeps table : List ℕ) (from : ℕ) : Type 0 where
  pub each : (marks : List ℕ) (i : ℕ) → from ≤ i → i < length plan.words → Sides plan marks i (i + 1)
      → is_kept plan marks keeps i ≡ true
      → HasChances plan marks table i
