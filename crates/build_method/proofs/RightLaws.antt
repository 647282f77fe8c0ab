-- What makes a method's answer right determines it, and the words of the build where it gives one, whichever method it is. Assumes nothing.
use mathlib.Core.Path.{◌≡◌, refl, sym, ap, ◌∙◌}
use mathlib.Core.List.{List, []}
use Prim.Native.Nat.{ℕ, ◌^◌, ◌<◌}
use Rattle.base_lists.specs.Members.{In}
use Rattle.card_entries.specs.declared.Entry.{Entry}
use Rattle.build_sequence.specs.Build.{spell}
use Rattle.build_sequence.specs.Verdict.{sole, several, no_build, Outcome, settled, unsettled}
use Rattle.build_sequence.proofs.BuildLaws.{worded_one}
use Rattle.build_method.specs.declared.MethodAnswer.{MethodAnswer}
use Rattle.build_method.specs.declared.MethodAnswer.TheVariants.{Sole, Several, None, Unsettled}
use Rattle.build_method.specs.Method.{says_method, GivesBuild, Right}

-- ---- the enum, had back from what it says

answer_back : Outcome → MethodAnswer
answer_back (settled (sole s) n) = Sole n
answer_back (settled (several s) n) = Several n
answer_back (settled no_build n) = None n
answer_back (unsettled n) = Unsettled n

answer_back_lem : (l : ℕ) (ws : List ℕ) (r : MethodAnswer) → answer_back (says_method l ws r) ≡ r
unfolding answer_back
answer_back_lem l ws (Sole n) = refl
answer_back_lem l ws (Several n) = refl
answer_back_lem l ws (None n) = refl
answer_back_lem l ws (Unsettled n) = refl

spelled_in : Outcome → List ℕ
spelled_in (settled (sole s) n) = s
spelled_in (settled (several s) n) = s
spelled_in (settled no_build n) = []
spelled_in (unsettled n) = []

spelled_in_lem : (l : ℕ) (ws : List ℕ) (r : MethodAnswer) → GivesBuild r → spelled_in (says_method l ws r) ≡ spell l ws
unfolding spelled_in
spelled_in_lem l ws (Sole n) g = refl
spelled_in_lem l ws (Several n) g = refl
spelled_in_lem l ws (None n) g = absurd g
spelled_in_lem l ws (Unsettled n) g = absurd g

-- ---- two answers that are right are one

-- one outcome at most is true
abbrev pub Single : (Outcome → Type 0) → Type 0
Single True = (o o' : Outcome) → True o → True o' → o ≡ o'

module _ {l : ℕ} {es : List Entry} {True : Outcome → Type 0} {r r' : MethodAnswer} {ws vs : List ℕ}
    (single : Single True) (p : Right l es True r ws) (q : Right l es True r' vs) where
  same : says_method l ws r ≡ says_method l vs r'
  same = single (says_method l ws r) (says_method l vs r') p.means q.means

  pub right_one : r ≡ r'
  right_one = sym (answer_back_lem l ws r) ∙ ap answer_back same ∙ answer_back_lem l vs r'

  -- and so are the words, where the words of the entries have l letters
  pub words_one : ((e : Entry) → In e es → e.word < 4 ^ l) → GivesBuild r → ws ≡ vs
  words_one fits g =
      let g' : GivesBuild r' = rw right_one at g in
      worded_one fits (p.worded g) (q.worded g') (sym (spelled_in_lem l ws r g) ∙ ap spelled_in same ∙ spelled_in_lem l vs r' g')
