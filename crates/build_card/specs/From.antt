-- Building from entries that hold: what the inner functions of `build` promise. A reader of its contract needs none of it.
--   Found f es budget r ws             == the method's answer r is right, with the words ws where it gives a build
--   Gives f es budget before r after   == the answer, and every byte of an output that has just as many as a build has letters
--   InRoom f es budget before r after  == the same of any output: 12, where it is too short
-- Assumes nothing.
use Rattle.std.specs.Prelude.{◌≡◌, List, map, ℕ, ◌≤◌, ◌<◌, length}
use Rattle.base_answers.specs.Numbers.{Room}
use Rattle.base_answers.specs.Answer.{Answer, given, refused}
use Rattle.card_entries.specs.declared.Format.{Format}
use Rattle.card_entries.specs.declared.Slot.{Slot}
use Rattle.card_entries.specs.Entry.{entry_of}
use Rattle.build_sequence.specs.Verdict.{sole, several, no_build, Outcome, settled, unsettled}
use Rattle.build_method.specs.declared.MethodAnswer.{MethodAnswer}
use Rattle.build_method.specs.Method.{Right}
use Rattle.build_card.specs.declared.BuildAnswer.{BuildAnswer}
use Rattle.build_card.specs.Building.{letters_in, Means, answer_of, letters_after}

abbrev pub Found : Format → List Slot → ℕ → MethodAnswer → List ℕ → Type 0
Found f es budget r ws = Right f.l (map (entry_of f.kind) es) (Means f.kind f.l es budget) r ws

-- the sequence of the outcome, where it has one, has n letters
abbrev pub Lettered : ℕ → Outcome → Type 0
Lettered n (settled (sole s) k) = length s ≡ n
Lettered n (settled (several s) k) = length s ≡ n
Lettered n (settled no_build k) = Unit {0}
Lettered n (unsettled k) = Unit {0}

pub record Gives (f : Format) (es : List Slot) (budget : ℕ) (before : List ℕ) (r : Answer BuildAnswer) (after : List ℕ) : Type 0 where
  pub outcome : Outcome
  pub means : Means f.kind f.l es budget outcome
  pub lettered : Lettered (length before) outcome
  pub answer : r ≡ answer_of (given outcome)
  pub output : after ≡ letters_after (given outcome) before

pub data InRoom (f : Format) (es : List Slot) (budget : ℕ) (before : List ℕ) (r : Answer BuildAnswer) (after : List ℕ) : Type 0 where
  short : length before < letters_in f → r ≡ answer_of (refused Room 0) → after ≡ before → InRoom f es budget before r after
  fits : {o : Outcome} → letters_in f ≤ length before
      → Means f.kind f.l es budget o
      → r ≡ answer_of (given o)
      → after ≡ letters_after (given o) before
      → InRoom f es budget before r after
