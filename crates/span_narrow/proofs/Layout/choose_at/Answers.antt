-- `choose_at` meets its contract: the list is that of the place, and the cell that of the state. Assumes nothing.
use Rattle.span_narrow.proofs.Layout.choose_at.Goals as goal

pub returns : goal.returns
returns c =
    rw (rw c.list-list.ensures at c.cell_of.ensures.is) at (rw c.list-list.ensures at c.choose.ensures)
