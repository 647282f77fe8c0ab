-- `export_card` meets its contract. Assumes nothing.
use Rattle.text_export.proofs.ExportLaws.{export_no_room, export_text}
use Rattle.text_export.proofs.export_card.Goals as goal

pub returns-then-out-n : goal.returns-then-out-n
returns-then-out-n c = export_no_room _ (λ i. (c.type_inv.card i).fits) c.requires c.text_length-n.ensures c.if-out-n.true

pub returns : goal.returns
returns c =
    export_text _ (λ i. (c.type_inv.card i).fits) c.requires c.text_length-n.ensures c.if-out-n.false c.put_lines.ensures
