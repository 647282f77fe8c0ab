-- `pair_method::from_lists` meets its contract: the entries and the lists of the places are made, and then `from_card` (proofs/CardLaws.antt).
-- Assumes nothing.
use mathlib.Core.Path.{◌≡◌, sym, ◌∙◌}
use Prim.Native.Nat.{suc, ◌-◌, ◌^◌}
use native.Mathlib.Omega.{arith}
use Rattle.build_sequence.proofs.LetterLaws.{pow_pos}
use Rattle.pair_method.proofs.LinkLaws.{linked_has}
use Rattle.pair_method.proofs.CardLaws.{many, card_of_lem, link_asks, gives}
use Rattle.pair_method.proofs.from_lists.Goals as goal

pub overflow_sub-mask : goal.overflow_sub-mask
overflow_sub-mask c = omega (arith, c.words_of-mask.ensures, pow_pos (c.args.l - 1))

pub link-requires : goal.link-requires
link-requires c =
    let masks : suc (c.words_of-mask.result - 1) ≡ 4 ^ (c.args.l - 1) = omega (arith, c.words_of-mask.ensures, pow_pos (c.args.l - 1)) in
    link_asks c.requires.pair_lists c.enter_all.ensures.has masks c.enter_all.ensures

pub from_card-requires : goal.from_card-requires
from_card-requires c =
    let masks : suc (c.words_of-mask.result - 1) ≡ 4 ^ (c.args.l - 1) = omega (arith, c.words_of-mask.ensures, pow_pos (c.args.l - 1)) in
    let pre = c.requires in
    let has = linked_has c.enter_all.ensures.has c.link.ensures in
    let holds = card_of_lem pre.pair_lists has masks in
    record {
      holds_pairs = (holds, c.link.ensures.links);
      lengths = (pre.lengths.2 ∙ sym (many pre.pair_lists has masks), rw pre.lengths.2 pre.lengths.0);
    }

pub returns : goal.returns
returns c =
    let masks : suc (c.words_of-mask.result - 1) ≡ 4 ^ (c.args.l - 1) = omega (arith, c.words_of-mask.ensures, pow_pos (c.args.l - 1)) in
    let pre = c.requires in
    let has = linked_has c.enter_all.ensures.has c.link.ensures in
    let all = c.from_card.auto.words ∙ pre.lengths.2 in
    (all, gives pre.pair_lists has masks all c.from_card.ensures)
