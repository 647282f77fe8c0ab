-- `belfrymist_write` meets its contract: the writer's answer, as numbers, with the output as the writer left it. Assumes nothing.
use mathlib.Core.Path.{ap, ◌∙◌}
use Rattle.firmware.specs.Flat.{write_answer}
use Rattle.firmware.proofs.writing.belfrymist_write.Goals as goal

pub returns : goal.returns
returns c =
    let wrote = c.write.ensures in record { answer = c.from.ensures ∙ ap write_answer wrote.answer; bytes = wrote.bytes }
