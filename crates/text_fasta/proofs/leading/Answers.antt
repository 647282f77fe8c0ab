-- `leading` meets its contract: what `position` finds is the first byte that fails (`led_found`). Assumes nothing.
use Rattle.std.proofs.Common.{rules, tests}
use mathlib.Core.Path.{◌∙◌}
use mathlib.Core.Bool.{true, false}
use Rattle.std.proofs.lemmas.Iterator.{IsFirst-from_position, YieldsList-from_slice}
use Rattle.text_fasta.proofs.LeadingLaws.{IsByte, led_found}
use Rattle.text_fasta.proofs.leading.Goals as goal

pub returns : goal.returns
returns g c = λ ok each.
    c.unwrap_or.ensures
    ∙ led_found ok _ (λ i. (c.type_inv.bytes i).fits) _
    (IsFirst-from_position _ _ _ (IsByte ok false) (IsByte ok true) c.position.ensures.ran (YieldsList-from_slice c.args.bytes.now cc)
    (λ x q k. search (rules, tests)) (λ x q k. search (rules, tests)))
