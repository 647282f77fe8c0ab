-- `settle_laid` meets its contract: the states that can be reached are kept, and what is read off the table is the verdict by all builds. Assumes
-- nothing.
use mathlib.Core.Path.{refl, ap}
use mathlib.Core.Bool.{not}
use Rattle.base_lists.proofs.TestLaws.{failed, passed}
use Rattle.span_narrow.proofs.SettleLaws.{known_first, none_settles, some_readable, sole_settles, several_settles}
use Rattle.span_narrow.proofs.Layout.settle.Goals as goal

pub completes-requires : goal.completes-requires
completes-requires c =
    known_first c.requires.planned c.sweep.ensures.sides c.sweep.ensures.swept

pub returns-then-not-completes : goal.returns-then-not-completes
returns-then-not-completes c =
    record {
      settles_lists = none_settles c.requires.planned c.sweep.ensures.sides c.sweep.ensures.swept _ c.completes.ensures
          (failed refl (ap not c.if-not-completes.true));
      first_len = c.requires.marks_len.2;
    }

pub read_off-requires : goal.read_off-requires
read_off-requires c =
    some_readable c.requires.planned c.sweep.ensures.sides c.sweep.ensures.swept c.completes.ensures
    (passed refl (ap not c.if-not-completes.false)) c.requires.marks_len.2

pub returns-then-read_off : goal.returns-then-read_off
returns-then-read_off c =
    record {
      settles_lists = several_settles c.requires.planned c.sweep.ensures.sides c.sweep.ensures.swept c.read_off.ensures c.if-read_off.true;
      first_len = c.read_off.ensures.all;
    }

pub returns : goal.returns
returns c =
    record {
      settles_lists = sole_settles c.requires.planned c.sweep.ensures.sides c.sweep.ensures.swept c.read_off.ensures c.if-read_off.false;
      first_len = c.read_off.ensures.all;
    }
