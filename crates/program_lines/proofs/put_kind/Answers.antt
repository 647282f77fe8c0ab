-- `put_kind` meets its contract, name by name. Assumes nothing.
use Rattle.base_text.proofs.PuttingLaws.{put_as}
use Rattle.program_lines.proofs.LinesLaws.{name_pair, name_span}
use Rattle.program_lines.proofs.put_kind.Goals as goal

pub returns-then-kind-eq-PAIR : goal.returns-then-kind-eq-PAIR
returns-then-kind-eq-PAIR c = put_as c.put_text.ensures (name_pair c.if-kind-eq-PAIR.true)

pub returns : goal.returns
returns c = put_as c.put_text-2.ensures (name_span c.if-kind-eq-PAIR.false)
