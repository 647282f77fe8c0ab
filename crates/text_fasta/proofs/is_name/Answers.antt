-- `is_name` meets its contract. Assumes nothing.
use borrow.Author.Rules.{rules}
use mathlib.Core.Path.{◌≡◌, ◌∙◌}
use mathlib.Core.Bool.{true, false, ◌&&◌}
use lib.ListN.{length}
use lib.Dec.{leb}
use Rattle.text_fasta.specs.Record.{least_name, most_name, is_printable}
use Rattle.text_fasta.proofs.TestLaws.{name_by_bytes, not_a_name}
use Rattle.text_fasta.proofs.is_name.Goals as goal

pub returns-then-contains : goal.returns-then-contains
returns-then-contains c =
    let n = length c.args.name.now in
    let within : (leb least_name n && leb n most_name) ≡ true = search rules in
    name_by_bytes _ within (c.leading.ensures is_printable (λ b h t e. e))

pub returns-else-contains : goal.returns-else-contains
returns-else-contains c =
    let n = length c.args.name.now in
    let without : (leb least_name n && leb n most_name) ≡ false = search rules in
    c.if-contains.false ∙ not_a_name _ without
