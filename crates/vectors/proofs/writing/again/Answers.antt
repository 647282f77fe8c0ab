-- `vectors::writing::again` is safe: a card that was listed found room in the lists (`listed_fits`). Assumes nothing.
use mathlib.Core.Path.{ap}
use Rattle.base_answers.specs.Answer.{says}
use Rattle.card_reader.proofs.ListingLaws.{listed_fits}
use native.Mathlib.Omega.{arith}
use Rattle.vectors.proofs.writing.again.Goals as goal

pub write_first-requires : goal.write_first-requires
write_first-requires g c =
    let fits = listed_fits c.admit_into.ensures (ap says c.in-Ok.is) in
    omega (arith, fits.in_words, fits.in_ones, fits.in_twos)
