-- `import` meets its contract: what scanning refuses, the rules of cards, and the lists that were kept. Assumes nothing.
use mathlib.Core.Path.{sym, ◌∙◌}
use native.Mathlib.Omega.{arith}
use Rattle.text_import.proofs.ImportingLaws.{import_sound, sound_length, sound_many, sound_written, few_letters, few_entries}
use Rattle.text_import.proofs.import.Goals as goal

pub returns-then-not-is_length : goal.returns-then-not-is_length
returns-then-not-is_length c =
    let said = sym c.in_ok-s.ensures.says in
    import_sound _ _ _ said (sound_length _ _ said (sym c.is_length.ensures ∙ c.if-not-is_length.true))

pub returns-then-not-is_count : goal.returns-then-not-is_count
returns-then-not-is_count c =
    let said = sym c.in_ok-s.ensures.says in
    import_sound _ _ _ said
    (sound_many _ _ said (sym c.is_length.ensures ∙ c.if-not-is_length.false) (sym c.is_count.ensures ∙ c.if-not-is_count.true))

pub returns : goal.returns
returns c =
    let said = sym c.in_ok-s.ensures.says in
    let few = few_entries {m = c.in_ok-s.s.m} (sym c.is_count.ensures ∙ c.if-not-is_count.false) in
    import_sound _ _ _ said
    (sound_written _ _ said (c.in_ok-s.ensures.keeps _ said) (omega (arith, c.scan.auto.words, few)) (omega (arith, c.scan.auto.ones, few)) (omega (arith, c.scan.auto.twos, few)) (few_letters (sym c.is_length.ensures ∙ c.if-not-is_length.false)) c.write_kept.ensures)
