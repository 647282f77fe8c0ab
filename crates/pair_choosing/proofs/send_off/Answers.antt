-- `pair_choosing::send_off` meets its contract: a law of proofs/Choosing.antt for each outcome. Assumes nothing.
use mathlib.Core.Path.{◌∙◌}
use mathlib.Core.Logic.{◌≢◌}
use Rattle.pair_following.specs.Following.{word_in}
use Rattle.pair_following.proofs.ExclusionLaws.{other_inside}
use Rattle.pair_choosing.proofs.Choosing.{drops_follow}
use Rattle.pair_choosing.proofs.send_off.Goals as goal

pub returns : goal.returns
returns c =
    let pre = c.requires in
    let other_word : word_in c.args.pairs.now.card.now c.args.e ≢ c.args.w = λ x. c.if-word_of-w.false (c.word_of.ensures ∙ x) in
    drops_follow pre.ready.shape pre.allowed.0 other_word pre.allowed.2 c.other-q.ensures c.if-q-t.false
    (other_inside pre.ready.holds pre.allowed.0 pre.allowed.2) c.follow.ensures
