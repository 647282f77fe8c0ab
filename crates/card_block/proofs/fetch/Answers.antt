-- `card_block::fetch` meets its contract: the block's own bytes where the companion holds, and otherwise none. Assumes nothing.
use mathlib.Core.Path.{◌≡◌, sym, ◌∙◌}
use native.Mathlib.Omega.{arith}
use Rattle.base_answers.specs.Answer.{given, sound, first}
use Rattle.base_answers.proofs.Laws.{told_holds, told_refused}
use Rattle.card_block.specs.Block.{fetch_tests}
use Rattle.card_block.proofs.Laws.{holds_there, fetch_holds, fetch_refused, place_holds, place_refused}
use Rattle.card_block.proofs.fetch.Goals as goal

-- where the companion has answered that the fetch holds
holds : (c : goal.In-Ok) → first (fetch_tests c.args.card.now c.args.k) sound ≡ given sound
holds c = told_holds c.companion.ensures c.in-Ok.is

pub part-requires : goal.part-requires
part-requires c = let start = c.args in omega (arith, holds_there start.card.now start.k sound sound (holds c))

pub returns-in-Ok : goal.returns-in-Ok
returns-in-Ok c =
    let h = told_holds c.companion.ensures c.in-Ok.is in
    record { bytes = c.part.ensures.bytes ∙ sym (fetch_holds _ _ h); place = c.part.ensures.place ∙ sym (place_holds _ _ _ h) }

pub returns-in-Err : goal.returns-in-Err
returns-in-Err c =
    let h = told_refused c.companion.ensures c.in-Err.is in
    record { bytes = sym (fetch_refused _ _ h); place = sym (place_refused _ _ _ h) }
