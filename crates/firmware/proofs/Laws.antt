-- From what the layers below say of an answer to the same answer as a struct of numbers. No contract cites this file. Assumes nothing.
use mathlib.Core.Path.{◌≡◌, refl, sym, ap, ◌∙◌}
use mathlib.Core.List.{List}
use Prim.Native.Nat.{ℕ, ◌*◌, ◌+◌, ◌≤◌}
use Rattle.std.specs.Prelude.{Option}
use lib.ListN.{length}
use Rattle.base_answers.specs.Answer.{Answer, given, refused, Sound, sound, first}
use Rattle.card_block.specs.Block.{block_bytes, fetch_tests, fetch_of}
use Rattle.card_block.proofs.Laws.{holds_there, part_none, part_holds, part_length}
use Rattle.build_sequence.specs.Many.{Power}
use Rattle.build_sequence.specs.Verdict.{sole, several, no_build, Outcome, settled, unsettled}
use Rattle.build_card.specs.Building.{answer_of, Builds}
use Rattle.build_card.specs.declared.BuildAnswer as builds
use Rattle.build_narrow.specs.Settling.{SettlesInto}
use Rattle.build_narrow.proofs.SettlingLaws.{settles_as}
use Rattle.build_count.specs.Counting.{number_of, Counts}
use Rattle.build_count.proofs.CountingLaws.{counts_as}
use Rattle.firmware.specs.declared.building.BuildAnswer.{BuildAnswer}
use Rattle.firmware.specs.Building.{build_answer, flat_of, Told}
use Rattle.firmware.specs.declared.PartAnswer.{PartAnswer}
use Rattle.firmware.specs.declared.count.CountAnswer.{CountAnswer}
use Rattle.firmware.specs.Counting.{count_answer, flat_number}
use Rattle.firmware.specs.Flat.{part_answer}

-- ---- a part, by its length

module _ (card : List ℕ) (k : ℕ) {part : List ℕ} (e : part ≡ fetch_of card k) where
  -- an empty part
  pub empty_flat : length part ≡ 0 → ◌≡◌ {A = PartAnswer} (record { at = 0; length = 0 }) (part_answer k (first (fetch_tests card k) sound))
  empty_flat z = go (first (fetch_tests card k) sound) refl
    where
      go : (r : Answer Sound) → first (fetch_tests card k) sound ≡ r → ◌≡◌ {A = PartAnswer} (record { at = 0; length = 0 }) (part_answer k r)
      go (given sound) q = absurd (part_none card k e z q)
      go (refused n p) q = refl

  module _ (some : length part ≡ 0 → ⊥) where
    -- a part that is not empty is of the card
    pub part_there : block_bytes * k + block_bytes ≤ length card
    part_there = holds_there card k sound sound (part_holds card k e some)

    pub part_flat :
        ◌≡◌ {A = PartAnswer} (record { at = block_bytes * k; length = length part }) (part_answer k (first (fetch_tests card k) sound))
    part_flat =
        (λ i. record { at = block_bytes * k; length = part_length card k e some i }) ∙ ap (part_answer k) (sym (part_holds card k e some))

-- ---- build

flat_same : (a : Answer Outcome) → flat_of (answer_of a) ≡ build_answer a
flat_same (given (settled (sole s) n)) = refl
flat_same (given (settled (several s) n)) = refl
flat_same (given (settled no_build n)) = refl
flat_same (given (unsettled n)) = refl
flat_same (refused n p) = refl

-- the struct of what build answers
pub build_flat : {limit budget : ℕ} {card before after : List ℕ} {r : Answer builds.BuildAnswer} {result : BuildAnswer}
    → Builds limit card budget before r after
    → result ≡ flat_of r
    → Told limit card budget before result after
build_flat b e = record {
  said = b.said;
  says = b.says;
  answer = e ∙ ap flat_of b.answer ∙ flat_same b.said;
  output = b.output;
}

-- ---- settling

-- the struct of what settling answers
pub settle_flat : {Says : Answer Outcome → Type 0} {before after : List ℕ} {r : Answer builds.BuildAnswer} {result : BuildAnswer}
    → SettlesInto answer_of Says before r after
    → result ≡ flat_of r
    → SettlesInto build_answer Says before result after
settle_flat c e = settles_as flat_of flat_same c e

-- ---- the number of builds

-- the struct of the number
pub count_flat : {Says : Answer Power → Type 0} {r : Answer (Option ℕ)} {result : CountAnswer} → Counts number_of Says r → result ≡ flat_number r
    → Counts count_answer Says result
count_flat c e = counts_as flat_number c e
