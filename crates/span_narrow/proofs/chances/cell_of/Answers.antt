-- `cell_of` meets its contract: so few marks are a number below the cells of a place (`cell_is`). Assumes nothing.
use Rattle.span_narrow.proofs.StateLaws.{cell_is}
use Rattle.span_narrow.proofs.chances.cell_of.Goals as goal

pub returns : goal.returns
returns c =
    cell_is _ _ _ c.requires.list_len_bound.0 c.bits_of.ensures.all
