-- `recall` meets its contract: it is the first cell of the bucket that tells, or the second. Assumes nothing.
use Rattle.std.proofs.Common.{refl, ◌+◌, ◌*◌, arith}
use Rattle.span_memory.proofs.CellLaws.{told_at}
use Rattle.span_memory.proofs.recall.Goals as goal

pub returns-then-known-one : goal.returns-then-known-one
returns-then-known-one c =
    let b = c.bucket_of-one.result in
    told_at (2 * b) (4 * b) (omega arith) (omega (arith, c.bucket_of-one.ensures)) (omega (arith, c.if-key-eq0.false)) c.if-known-one.true refl

pub returns-then-known-two : goal.returns-then-known-two
returns-then-known-two c =
    let b = c.bucket_of-one.result in
    told_at (2 * b + 1) (4 * b + 2) (omega arith) (omega (arith, c.bucket_of-one.ensures)) (omega (arith, c.if-key-eq0.false)) c.if-known-two.true refl
