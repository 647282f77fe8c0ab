-- `pair_following::PairCard::attempt` meets its contract: following, then undoing (`attempted`, proofs/UndoLaws.antt). Assumes nothing.
use Rattle.pair_following.proofs.UndoLaws.{attempted}
use Rattle.pair_following.proofs.PairCard.attempt.Goals as goal

pub returns : goal.returns
returns c =
    let undo = c.undo.ensures in
    rw (c.is_ok-ok.ensures.value, undo.trail.0, undo.trail.1) (attempted c.requires.ready.shape c.follow.ensures undo.back)
