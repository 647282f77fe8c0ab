-- `put_card` meets its contract: `CARD`, the kind's name and the two numbers, one after the other (`put_then`). Assumes nothing.
use native.Mathlib.Omega.{arith}
use Rattle.base_text.proofs.PuttingLaws.{length_put, put_then, put_as}
use Rattle.program_lines.proofs.LinesLaws.{name_length_lem, card_put}
use Rattle.program_lines.proofs.put_card.Goals as goal

pub put_two-requires : goal.put_two-requires
put_two-requires c =
    let put = put_then c.put_text-kind_at.ensures c.put_kind-l_at.ensures in
    omega (arith, put.ends, length_put put, name_length_lem c.told_by-f.result.kind, c.requires.room)

pub returns : goal.returns
returns c =
    let texts = put_then c.put_text-kind_at.ensures c.put_kind-l_at.ensures in
    record {
      put = put_as (put_then texts c.put_two.ensures.put) (card_put c.told_by-f.ensures);
      within = omega (arith, texts.ends, c.put_two.ensures.upper_bound, name_length_lem c.told_by-f.result.kind);
    }
