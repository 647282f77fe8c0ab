-- What a method answers, and what makes that right: one notion for all methods.
--   says_method l ws r              == what the enum `MethodAnswer` says, where ws are the words that are given with it
--   GivesBuild r                   == r gives a build
--   Right l es True r ws           == r says what is true, where `True o` says so of an outcome o, and where it gives a build, ws are the
--                                     words of an arrangement of the entries es
-- Assumes nothing.
use Rattle.std.specs.Prelude.{List, ℕ}
use Rattle.card_entries.specs.declared.Entry.{Entry}
use Rattle.build_sequence.specs.Build.{spell}
use Rattle.build_sequence.specs.Worded.{Worded}
use Rattle.build_sequence.specs.Verdict.{sole, several, no_build, Outcome, settled, unsettled}
use Rattle.build_method.specs.declared.MethodAnswer.{MethodAnswer}
use Rattle.build_method.specs.declared.MethodAnswer.TheVariants.{Sole, Several, None, Unsettled}

-- "Build answers Sole, Several, None, Unsettled […], each with its own numbers"
abbrev pub says_method : ℕ → List ℕ → MethodAnswer → Outcome
says_method l ws (Sole n) = settled (sole (spell l ws)) n
says_method l ws (Several n) = settled (several (spell l ws)) n
says_method l ws (None n) = settled no_build n
says_method l ws (Unsettled n) = unsettled n

abbrev pub GivesBuild : MethodAnswer → Type 0
GivesBuild (Sole n) = Unit {0}
GivesBuild (Several n) = Unit {0}
GivesBuild (None n) = ⊥
GivesBuild (Unsettled n) = ⊥

pub record Right (l : ℕ) (es : List Entry) (True : Outcome → Type 0) (r : MethodAnswer) (ws : List ℕ) : Type 0 where
  pub means : True (says_method l ws r)
  pub worded : GivesBuild r → Worded l es ws
