-- `write_named` meets its contract. Assumes nothing.
use mathlib.Core.Path.{sym, ◌∙◌}
use Rattle.text_fasta.proofs.TestLaws.{name_holds, letters_held}
use Rattle.text_fasta.proofs.AnswerLaws.{no_room, room_for, record_written}
use Rattle.text_fasta.proofs.writing.write_named.Goals as goal

pub fits-requires : goal.fits-requires
fits-requires c = ((name_holds _ c.requires.0).1, (letters_held _ c.requires.1).0)

pub returns-then-not-fits : goal.returns-then-not-fits
returns-then-not-fits c =
    no_room _ _ _ c.requires.0 c.requires.1 (sym c.fits.ensures ∙ c.if-not-fits.true)

pub put_record-requires : goal.put_record-requires
put_record-requires c =
    let args = c.args in
    room_for args.name.now args.letters.now args.out.now c.requires.0 c.requires.1
    (sym c.fits.ensures ∙ c.if-not-fits.false)

pub returns : goal.returns
returns c =
    record_written _ _ _ c.requires.0 c.requires.1 (sym c.fits.ensures ∙ c.if-not-fits.false) c.put_record.ensures
