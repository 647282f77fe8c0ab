-- `belfrymist_build` meets its contract: what build answers, as numbers. Assumes nothing.
use Rattle.firmware.proofs.Laws.{build_flat}
use Rattle.firmware.proofs.building.belfrymist_build.Goals as goal

pub returns : goal.returns
returns c = build_flat c.build.ensures c.from.ensures
