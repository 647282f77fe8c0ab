-- `build_from` meets its contract: what the method finds is spelled. Assumes nothing.
use mathlib.Core.Path.{sym, ap, ◌∙◌}
use Prim.Native.Nat.{ℕ, ◌+◌}
use native.Mathlib.Omega.{arith}
use lib.ListN.{length, take}
use Rattle.build_method.specs.Method.{says_method}
use Rattle.build_card.proofs.SoundLaws.{hold_few, found_all, hold_spells}
use Rattle.build_card.proofs.FromLaws.{says_lettered}
use Rattle.build_card.proofs.build_from.Goals as goal

pub find-r-requires : goal.find-r-requires
find-r-requires c = record { lists_hold = c.requires.lists_hold; words_in_bounds = hold_few c.requires.lists_hold }

pub slice_bounds-found-end : goal.slice_bounds-found-end
slice_bounds-found-end c = omega (arith, hold_few c.requires.lists_hold)

pub slice_bounds-spelled-end : goal.slice_bounds-spelled-end
slice_bounds-spelled-end c = sym (found_all c.requires.lists_hold c.find-r.new.found (omega arith))

pub spelled-requires : goal.spelled-requires
spelled-requires c =
    let all = found_all c.requires.lists_hold c.find-r.new.found (omega arith) in
    record { spells = hold_spells c.requires.lists_hold all; out_len = c.requires.out_len ∙ sym (ap (λ (n : ℕ). n + c.args.f.l) all) }

pub returns : goal.returns
returns c =
    let words_at = take (length c.args.lists.now.words.now) c.find-r.new.found in
    let all = found_all c.requires.lists_hold c.find-r.new.found (omega arith) in
    let letters = c.requires.out_len ∙ sym (ap (λ (n : ℕ). n + c.args.f.l) all) in
    record {
      outcome = says_method c.args.f.l words_at c.find-r.result;
      means = c.find-r.ensures.means;
      lettered = says_lettered c.args.f.l words_at (hold_spells c.requires.lists_hold all) c.args.out.now letters c.find-r.result;
      answer = c.spelled.ensures.value;
      output = c.spelled.ensures.out_after;
    }
