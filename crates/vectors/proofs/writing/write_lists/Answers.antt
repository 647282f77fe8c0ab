-- `vectors::writing::write_lists` meets its contract: a card that was written had room (`wrote_within`). Assumes nothing.
use Rattle.vectors.proofs.WithinLaws.{wrote_within}
use Rattle.vectors.proofs.writing.write_lists.Goals as goal

pub returns : goal.returns
returns g c = wrote_within _ c.write.ensures
