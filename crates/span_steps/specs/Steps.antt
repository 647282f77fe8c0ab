-- What the steps of a method for span cards find, over the tables that it reads: definitions for the contracts of inner functions. A mark of 0
-- says that the entry is left. `Steps` has no word of 01 that `span_theory` has not; that it comes to the same is proved.
--   is_left marks j                 == entry j is left
--   span_at words ones twos j       == entry j of the lists
--   left words ones twos marks     == the entries that are left, in the order of their indices
--   agrees i want w                == w may stand at the place i, after a word whose last letters are `want`
--   Wants l i want p               == `want` is the last letters of the word before the place i, if there is one
--   able words marks i want j      == entry j is left, and its word agrees
--   is_due twos marks i j           == entry j is left, and ends at i
--   opened dues table              == what may be tried of the table, by those of it that are due: all, the one, or nothing
--   WalkTables                     == what is read: the words and last places of the entries, where the list of each place begins, and
--                                     all the lists
--   tables_of t                    == the same of the struct that the code reads
--   tries ok word w js             == those of js that are tried where w was the last word tried: of equal words the first
-- Assumes nothing.
use Rattle.std.specs.Prelude.{Bool, true, cond, ◌&&◌, not, List, [], ◌∷◌, map, ◌≡◌, ℕ, ◌-◌, ◌/◌, ◌^◌, ◌%◌, ◌<◌, length, get_or, eqb}
use Rattle.std.proofs.Math.Option.{Option, none, some}
use Rattle.card_entries.specs.declared.Slot.{Slot}
use Rattle.span_steps.specs.declared.Tables.{Tables}
use Rattle.base_lists.specs.Members.{keep}
use Rattle.base_lists.specs.Numbers.{numbers}

-- what no word is, as the largest number of four bytes
abbrev pub no_word : ℕ
no_word = 4294967295

pub record WalkTables : Type 0 where
  pub words : List ℕ
  pub twos : List ℕ
  pub starts : List ℕ
  pub slots : List ℕ

abbrev pub walk_tables : List ℕ → List ℕ → List ℕ → List ℕ → WalkTables
walk_tables words twos starts slots = record { words = words; twos = twos; starts = starts; slots = slots }

abbrev pub tables_of : Tables → WalkTables
tables_of t = walk_tables t.words.now t.twos.now t.starts.now t.slots.now

abbrev pub is_left : List ℕ → ℕ → Bool
is_left marks j = eqb (get_or marks j 0) 0

abbrev pub span_at : List ℕ → List ℕ → List ℕ → ℕ → Slot
span_at words ones twos j = record { word = get_or words j 0; one = get_or ones j 0; two = get_or twos j 0 }

unfoldable pub left : List ℕ → List ℕ → List ℕ → List ℕ → List Slot
left words ones twos marks = map (span_at words ones twos) (keep (is_left marks) (numbers 0 (length words)))

abbrev pub agrees : ℕ → ℕ → ℕ → Bool
agrees i want w = cond (eqb i 0) true (eqb (w / 4) want)

-- the word before, by its last letters
pub data Wants (l : ℕ) : ℕ → ℕ → Option ℕ → Type 0 where
  at_first : {want : ℕ} → Wants l 0 want none
  later_on : {i want v : ℕ} → 0 < i → want ≡ v % 4 ^ (l - 1) → Wants l i want (some v)

unfoldable pub able : List ℕ → List ℕ → ℕ → ℕ → ℕ → Bool
able words marks i want j = is_left marks j && agrees i want (get_or words j 0)

unfoldable pub is_due : List ℕ → List ℕ → ℕ → ℕ → Bool
is_due twos marks i j = is_left marks j && eqb (get_or twos j 0) i

abbrev pub opened : List ℕ → List ℕ → List ℕ
opened [] table = table
opened (d ∷ []) table = d ∷ []
opened (d ∷ e ∷ more) table = []

unfoldable pub tries : (ℕ → Bool) → (ℕ → ℕ) → ℕ → List ℕ → List ℕ
tries ok word w [] = []
tries ok word w (j ∷ js) = cond (ok j && not (eqb (word j) w)) (j ∷ tries ok word (word j) js) (tries ok word w js)

-- each entry is left
pub record Unmarked (marks : List ℕ) : Type 0 where
  pub each : (k : ℕ) → k < length marks → is_left marks k ≡ true
