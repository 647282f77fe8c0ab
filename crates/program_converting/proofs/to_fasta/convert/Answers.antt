-- `to_fasta::convert` meets its contract: what the answer of `build` asks for is written (`sole_written`, `refusal_written`,
-- `other_written`). Assumes nothing.
use mathlib.Core.Path.{refl, ap, ◌∙◌}
use borrow.Author.Rules.{rules}
use Rattle.std.specs.Prelude.{Ok}
use Rattle.program_converting.proofs.FastaLaws.{sole_written, refusal_written, other_written}
use Rattle.program_converting.proofs.to_fasta.convert.Goals as goal

pub returns-in-Sole : goal.returns-in-Sole
returns-in-Sole c =
    sole_written refl c.build.ensures (c.in-Ok.is ∙ ap Ok c.in-Sole.is) (search rules) c.write.ensures c.put_answer.ensures

pub returns-in_default : goal.returns-in_default
returns-in_default c = other_written refl c.build.ensures c.in-Ok.is c.in_default.not-Sole c.put.ensures

pub returns-in-Err : goal.returns-in-Err
returns-in-Err c = refusal_written refl c.build.ensures c.in-Err.is c.put_answer-in-Err.ensures
