-- `belfrymist_import` meets its contract: the answer of `import`, as numbers, with the output as that left it. Assumes nothing.
use mathlib.Core.Path.{ap, ◌∙◌}
use Rattle.firmware.specs.Flat.{write_answer}
use Rattle.firmware.proofs.listing.belfrymist_import.Goals as goal

pub returns : goal.returns
returns c =
    let did = c.import.ensures in record { answer = c.from.ensures ∙ ap write_answer did.answer; bytes = did.bytes }
