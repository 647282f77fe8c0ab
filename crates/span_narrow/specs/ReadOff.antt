-- The first build, read off the table place by place.
--   Taking plan marks table s             == a state at the spot s from which a build is completed, and of which the table has the chances
--   Took plan marks marks' s t            == the entry of t is the first that leads on from there, and is placed; t says whether another leads on
--                                            too
--   Readable plan marks table first       == every entry is left, the table is done, and there is a build
--   WasRead plan marks first r            == `first` are the words of the first build, and r says whether there is another
-- Assumes nothing.
use Rattle.std.specs.Prelude.{◌≡◌, Bool, true, List, ◌∷◌, ◌++◌, ℕ, ◌+◌, ◌-◌, ◌*◌, ◌≤◌, ◌<◌, length, set}
use Rattle.std.proofs.Math.Option.{Option, none}
use Rattle.base_lists.specs.Members.{In}
use Rattle.span_layers.specs.Completed.{paths, is_some}
use Rattle.span_steps.specs.Steps.{Wants}
use Rattle.span_narrow.specs.declared.chances.Spot.{Spot}
use Rattle.span_narrow.specs.declared.digits.Pick.{Pick}
use Rattle.span_narrow.specs.Plan.{Plan, left_on, Planned}
use Rattle.span_narrow.specs.States.{cells_over, Sides, tried_at, paths_after, paths_with, HasChances}
use Rattle.span_narrow.specs.Sweeping.{Half}

pub record Taking (plan : Plan) (marks table : List ℕ) (s : Spot) : Type 0 where
  pub planned : Planned plan
  pub inside : s.i < length plan.words
  pub room : cells_over * length plan.words ≤ length table
  pub sides : Sides plan marks s.i (s.i + 1)
  pub told : HasChances plan marks table s.i
  pub word_before : Option ℕ
  pub wants : Wants plan.l s.i s.want word_before
  pub some : is_some (paths plan.l (length plan.words - s.i) s.i word_before (left_on plan marks)) ≡ true

pub record Took (plan : Plan) (marks marks' : List ℕ) (s : Spot) (t : Pick) : Type 0 where
  pub marks_is : marks' ≡ set marks t.e 1
  pub tried : In t.e (tried_at plan marks s.i)
  pub leads : is_some (paths_after plan marks s.i t.e) ≡ true
  pub rest : List (List ℕ)
  pub more_is : is_some rest ≡ t.more
  pub paths_are : (p : Option ℕ) → Wants plan.l s.i s.want p
      → paths plan.l (length plan.words - s.i) s.i p (left_on plan marks) ≡ paths_with plan marks s.i t.e ++ rest

pub record Readable (plan : Plan) (marks table first : List ℕ) : Type 0 where
  pub planned : Planned plan
  pub half : Half plan table 0 0
  pub sides : Sides plan marks 0 0
  pub firsts_all : length first ≡ length plan.words
  pub some : is_some (paths plan.l (length plan.words) 0 none (left_on plan marks)) ≡ true

pub record WasRead (plan : Plan) (marks first : List ℕ) (r : Bool) : Type 0 where
  pub all : length first ≡ length plan.words
  pub rest : List (List ℕ)
  pub more_is : is_some rest ≡ r
  pub paths_are : paths plan.l (length plan.words) 0 none (left_on plan marks) ≡ first ∷ rest
