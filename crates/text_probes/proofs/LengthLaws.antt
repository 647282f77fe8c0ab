-- How long a line is at most. Assumes nothing.
use mathlib.Core.Path.{◌≡◌, refl}
use mathlib.Core.Bool.{true, ◌&&◌}
use mathlib.Core.List.{List, ◌++◌, map}
use Prim.Native.Nat.{ℕ, ◌+◌, ◌≤◌}
use native.Mathlib.Omega.{arith}
use lib.ListN.{length, length-map, length-append}
use lib.Dec.{leb}
use borrow.Author.Tests.{leb-true}
use Rattle.base_lists.proofs.TestLaws.{both}
use Rattle.base_letters.specs.Letters.{letter_of}
use Rattle.card_entries.specs.Fault.{most_length}
use Rattle.base_text.specs.Text.{ascii, decimal}
use Rattle.base_text.proofs.DecimalLaws.{decimal_length}
use Rattle.text_probes.specs.declared.line.Marked.{Marked}
use Rattle.text_probes.specs.declared.line.Marked.TheVariants.{Bare, Two, Run}
use Rattle.text_probes.specs.Line.{Line, most_number, most_line, listed_text, line_text, is_small, fine}
use Rattle.text_probes.proofs.LineLaws.{is_fine}

number_few : (p : ℕ) → leb p most_number ≡ true → length (decimal p) ≤ 5
number_few p h = decimal_length 4 p (omega (arith, leb-true p most_number h))

both_few : (p q : ℕ) (mark : List ℕ) → length mark ≡ 1 → (leb p most_number && leb q most_number) ≡ true
    → length (decimal p ++ (mark ++ decimal q)) ≤ 11
both_few p q mark one h =
    let each = both (leb p most_number) (leb q most_number) h in
    omega (arith, length-append (decimal p) (mark ++ decimal q), length-append mark (decimal q), number_few p each.0, number_few q each.1)

-- two numbers of five digits, and a mark
pub listed_few : (y : Marked) → is_small y ≡ true → length (listed_text y) ≤ 11
listed_few (Bare p) h = omega (arith, number_few p h)
listed_few (Two p q) h = both_few p q (ascii ",") refl h
listed_few (Run p q) h = both_few p q (ascii "-") refl h

pub line_long : (x : Line) → length (line_text x) ≡ length x.word + 2 + length (listed_text x.listed)
unfolding line_text
line_long x =
    omega (
      arith,
      length-append (map letter_of x.word) (ascii "\t" ++ (listed_text x.listed ++ ascii "\n")),
      length-append (listed_text x.listed) (ascii "\n"),
      length-map x.word letter_of,
    )

pub line_few : (x : Line) → fine x ≡ true → length x.word ≤ most_length → length (line_text x) ≤ most_line
line_few x h short = omega (arith, line_long x, listed_few x.listed (is_fine x h).small)
