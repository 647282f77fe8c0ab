-- `put_line` meets its contract: its four parts, one after the other (`line_put`). Assumes nothing.
use mathlib.Core.Path.{ap}
use native.Mathlib.Omega.{arith}
use lib.ListN.{length}
use Rattle.text_probes.specs.declared.line.Marked.{Marked}
use Rattle.base_text.proofs.PuttingLaws.{length_put, put_then}
use Rattle.text_probes.specs.Line.{listed_text}
use Rattle.text_export.proofs.PutLaws.{word_long, line_long, line_put}
use Rattle.text_export.proofs.putting.put_line.Goals as goal

pub put_word-tab_at-requires : goal.put_word-tab_at-requires
put_word-tab_at-requires c =
    (c.requires.fine.0, c.requires.fine.1, omega (arith, c.requires.room, line_long c.args.kind c.args.l c.args.s))

pub put_text-listed_at-requires : goal.put_text-listed_at-requires
put_text-listed_at-requires c =
    let put = c.put_word-tab_at.ensures in
    omega (arith, put.ends, length_put put, word_long c.args.l c.args.s.word, c.requires.room, line_long c.args.kind c.args.l c.args.s)

pub put_listed-newline_at-requires : goal.put_listed-newline_at-requires
put_listed-newline_at-requires c =
    let put = put_then c.put_word-tab_at.ensures c.put_text-listed_at.ensures in
    omega (
      arith,
      c.put_text-listed_at.ensures.ends,
      c.put_word-tab_at.ensures.ends,
      length_put put,
      ap (λ (y : Marked). length (listed_text y)) c.listed_for.ensures,
      word_long c.args.l c.args.s.word,
      c.requires.room,
      line_long c.args.kind c.args.l c.args.s,
    )

pub put_text-requires : goal.put_text-requires
put_text-requires c =
    let put = put_then c.put_word-tab_at.ensures (put_then c.put_text-listed_at.ensures c.put_listed-newline_at.ensures) in
    omega (
      arith,
      c.put_listed-newline_at.ensures.ends,
      c.put_text-listed_at.ensures.ends,
      c.put_word-tab_at.ensures.ends,
      length_put put,
      ap (λ (y : Marked). length (listed_text y)) c.listed_for.ensures,
      word_long c.args.l c.args.s.word,
      c.requires.room,
      line_long c.args.kind c.args.l c.args.s,
    )

pub returns : goal.returns
returns c =
    line_put c.args.kind c.args.l c.args.s c.put_word-tab_at.ensures c.put_text-listed_at.ensures c.listed_for.ensures
    c.put_listed-newline_at.ensures c.put_text.ensures
