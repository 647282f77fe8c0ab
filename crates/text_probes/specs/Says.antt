-- What the functions of the line reader answer. A reader of the public contracts needs none of it.
--   Reads text said read end     == what is said is what is read, and the text goes on at `end`
--   says_read text r, says_lined text r    == what was read of the text: a number or what is listed; a line
--   end_of r, line_end r                  == where the text goes on
--   Said, told_of o               == what is told of a line that is read
--   code_in r                     == the code of a letter that was read, and 0 where there is none
--   kept v cs                    == the value that is kept of a word: of its last 16 letters, where v is that of the letters before cs
--   outline_after s n y           == the outline s with a line more, of n letters and what it lists
--   Spelled text at w            == w is told of the letters of the text from `at` on
-- Assumes nothing.
use Rattle.std.specs.Prelude.{◌≡◌, ℕ, ◌+◌, ◌*◌, ◌^◌, ◌%◌, ◌≤◌, Bool, true, false, cond, List, [], ◌∷◌, length, drop, eqb}
use Rattle.std.specs.Prelude as std
use Rattle.std.proofs.Math.Option.{Option, none, some}
use Rattle.base_letters.specs.Letters.{codes, Reading, code, no_letter}
use Rattle.text_probes.specs.declared.line.Marked.{Marked}
use Rattle.text_probes.specs.declared.line.Word.{Word}
use Rattle.text_probes.specs.declared.line.Probe.{Probe}
use Rattle.text_probes.specs.declared.scanning.Outline.{Outline}
use Rattle.text_probes.specs.Line.{Line}
use Rattle.text_probes.specs.Reading.{Read, read_codes}
use Rattle.text_probes.specs.Testing.{mark_of, line_letters}

pub record Reads {A : Type 0} (text : List ℕ) (said read : Option A) (end : ℕ) : Type 0 where
  pub says : said ≡ read
  pub within : end ≤ length text

-- what was read of the text, where it was, with the rest of the text; and where that begins
abbrev pub says_read : {A : Type 0} → List ℕ → std.Option (A × ℕ) → Option (Read A)
says_read text (std.Some (x, end)) = some (record { what = x; rest = drop end text })
says_read text std.None = none

abbrev pub end_of : {A : Type 0} → std.Option (A × ℕ) → ℕ
end_of (std.Some (x, end)) = end
end_of std.None = 0

-- ---- letters

abbrev pub code_in : Reading → ℕ
code_in no_letter = 0
code_in (code c) = c

abbrev pub kept : ℕ → List ℕ → ℕ
kept v [] = v
kept v (c ∷ cs) = kept (codes * (v % 2 ^ 30) + c) cs

pub record Spelled (text : List ℕ) (at : ℕ) (w : Word) : Type 0 where
  pub end : w.end ≡ at + length (read_codes (drop at text)).what
  pub rest : drop w.end text ≡ (read_codes (drop at text)).rest
  pub value : w.value ≡ kept 0 (read_codes (drop at text)).what
  pub within : w.end ≤ length text

-- ---- a line

pub record Said : Type 0 where
  pub letters : ℕ
  pub word : ℕ
  pub listed : Marked
  pub rest : List ℕ

abbrev pub says_lined : List ℕ → std.Option Probe → Option Said
says_lined text (std.Some t) = some (record { letters = t.letters; word = t.word; listed = t.listed; rest = drop t.end text })
says_lined text std.None = none

abbrev pub line_end : std.Option Probe → ℕ
line_end (std.Some t) = t.end
line_end std.None = 0

abbrev pub told_of : Option (Read Line) → Option Said
told_of none = none
told_of (some r) =
    some (record { letters = length r.what.word; word = kept 0 r.what.word; listed = r.what.listed; rest = r.rest })

-- a byte stands there
abbrev pub stands : Option (List ℕ) → Bool
stands none = false
stands (some xs) = true

-- ---- a line more

-- the outline s with a line of so many letters, and what is listed after them
abbrev pub outline_after : Outline → ℕ → Marked → Outline
outline_after s letters listed =
    record {
      mark = cond (eqb s.mark 0) (mark_of listed) s.mark;
      l = cond (eqb s.l 0) letters s.l;
      m = s.m + 1;
    }

abbrev pub next_outline : Outline → Line → Outline
next_outline s x = outline_after s (line_letters x) x.listed
