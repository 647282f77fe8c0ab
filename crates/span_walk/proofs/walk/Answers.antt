-- `walk` meets its contract: `ready_first` for the call at the first place, `whole_walk` for what it comes to. Assumes nothing.
use mathlib.Core.Path.{◌≡◌, ◌∙◌}
use Prim.Native.Nat.{ℕ, ◌+◌, ◌-◌, ◌^◌, ◌≤◌}
use native.Mathlib.Omega.{arith}
use lib.ListN.{length, replicate}
use lib.Seq.{length-take-le, take_at}
use Rattle.card_entries.proofs.HoldLaws.{few_entries}
use Rattle.card_entries.specs.Bounds.{most_entries}
use Rattle.build_sequence.proofs.LetterLaws.{pow_pos}
use Rattle.span_walk.proofs.RecallLaws.{recalls_none}
use Rattle.span_walk.proofs.WholeLaws.{zeros_unmarked, ready_first, whole_walk}
use Rattle.span_walk.proofs.walk.Goals as goal

pub overflow_sub-mask : goal.overflow_sub-mask
overflow_sub-mask c = omega (arith, c.words_of-mask.ensures, pow_pos (c.args.l - 1))

pub walk_from-went-requires : goal.walk_from-went-requires
walk_from-went-requires c =
    let card = c.requires.span_lists in
    let marks_room : length c.args.lists.now.words.now ≤ length {A = ℕ} (replicate most_entries 0) = few_entries card in
    record {
      ready = ready_first card c.prepare.ensures (zeros_unmarked most_entries) marks_room _ _ (length-take-le _ _ c.requires.words_in_bounds);
      recalls = recalls_none _ _ c.nothing-known.ensures;
    }

pub returns : goal.returns
returns c =
    let card = c.requires.span_lists in
    let marks_room : length c.args.lists.now.words.now ≤ length {A = ℕ} (replicate most_entries 0) = few_entries card in
    let masks : c.words_of-mask.result - 1 + 1 ≡ 4 ^ (c.args.l - 1) = omega (arith, c.words_of-mask.ensures, pow_pos (c.args.l - 1)) in
    let went = c.walk_from-went.ensures.went_on in
    let all = went.firsts ∙ length-take-le _ _ c.requires.words_in_bounds in
    rw (c.outcome_of.ensures, take_at c.walk_from-went.new.first _ _ all)
    (whole_walk card c.prepare.ensures (zeros_unmarked most_entries) marks_room masks went)
