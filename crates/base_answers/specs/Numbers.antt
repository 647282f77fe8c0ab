-- The numbers of the refusals (01, "What can come back", and the requests): a name for each row of the table. Assumes nothing.
use Rattle.std.specs.Prelude.{ℕ}

-- "card under 512 bytes"
abbrev pub Short : ℕ
Short = 1

-- "block's a or b differs"
abbrev pub Check : ℕ
Check = 2

-- "block's index field differs"
abbrev pub Index : ℕ
Index = 3

-- "form not 1"
abbrev pub Form : ℕ
Form = 4

-- "kind not 1 or 2"; request 11: "a pair card"; request 12: "on a span card"
abbrev pub Kind : ℕ
Kind = 5

-- "l outside 2–12"
abbrev pub WordLength : ℕ
WordLength = 6

-- "m outside 1–504"
abbrev pub Count : ℕ
Count = 7

-- "a byte that must be zero isn't"
abbrev pub Spare : ℕ
Spare = 8

-- "bytes not 512 × (1 + ceil(m/63))"
abbrev pub Size : ℕ
Size = 9

-- "value 4^l or more"
abbrev pub Word : ℕ
Word = 10

-- "place rule or width broken, or place above m−1"
abbrev pub Places : ℕ
Places = 11

-- "lent output too short"
abbrev pub Room : ℕ
Room = 12

-- "the writer's three lists differ in length"
abbrev pub Lists : ℕ
Lists = 13

-- "no such block or entry"
abbrev pub Absent : ℕ
Absent = 14

-- request 1: "also a missing `>` or no newline after the name"
abbrev pub Name : ℕ
Name = 20

-- request 1: "with the count of letters before it (no letter at all counts, at 0)"
abbrev pub Letter : ℕ
Letter = 21

-- request 1: "where a break is missing or stands elsewhere than the rule puts it"
abbrev pub Line : ℕ
Line = 22

-- request 2: "also an empty word, a number above 65,535 or with a needless leading zero, or an empty list at line 1"
abbrev pub Text : ℕ
Text = 23

-- request 2: "at the first line whose mark differs from an earlier one"
abbrev pub Mixed : ℕ
Mixed = 24

-- request 2: "where a word's length isn't l"
abbrev pub Uneven : ℕ
Uneven = 25

-- request 2: "for place 0"
abbrev pub Zero : ℕ
Zero = 26

-- request 11: "Wider with the first entry over 4"
abbrev pub Wider : ℕ
Wider = 30
