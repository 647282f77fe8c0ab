-- The scope's edges of the numbers ("Edges of the numbers"), from the definitions, on cards of 10 entries; and how many words
-- there are. Assumes nothing.
use mathlib.Core.Path.{◌≡◌, refl}
use mathlib.Core.Bool.{true, false}
use mathlib.Core.List.{[], ◌∷◌}
use Prim.Native.Nat.{ℕ, ◌^◌, ◌≤◌}
use borrow.Author.Tests.{le-ltb}
use Rattle.base_answers.specs.Numbers.{Word, Places}
use Rattle.base_answers.specs.Answer.{given, refused, sound, first}
use Rattle.base_lists.specs.Row.{row}
use Rattle.card_entries.specs.declared.Places.TheVariants.{One, Two, Span}
use Rattle.card_entries.specs.Fault.{pair, span, no_place, is_place, pair_holds, span_holds, places_hold, entry_tests}
use Rattle.card_entries.specs.Entry.{places_of}

-- "65,535 is never a place", on any card whose m two bytes can hold
pub never_a_place : (m : ℕ) → m ≤ no_place → is_place m no_place ≡ false
never_a_place m h = le-ltb no_place m h

-- "place m−1 passes, m gives 11"
pub last_place : pair_holds 10 9 no_place ≡ true
unfolding pair_holds
last_place = refl

pub place_m : pair_holds 10 10 no_place ≡ false
unfolding pair_holds
place_m = refl

pub second_place_m : pair_holds 10 3 10 ≡ false
unfolding pair_holds
second_place_m = refl

-- "width 8 passes, 9 gives 11"
pub width_eight : span_holds 10 1 8 ≡ true
unfolding span_holds
width_eight = refl

pub width_nine : span_holds 10 1 9 ≡ false
unfolding span_holds
width_nine = refl

-- "otherwise place one < place two", and on a span card "place one ≤ place two"
pub pair_equal : pair_holds 10 4 4 ≡ false
unfolding pair_holds
pair_equal = refl

pub span_one_wide : span_holds 10 4 4 ≡ true
unfolding span_holds
span_one_wide = refl

-- 65,535 in each place
pub pair_no_first : pair_holds 10 no_place 3 ≡ false
unfolding pair_holds
pair_no_first = refl

pub span_no_last : span_holds 10 3 no_place ≡ false
unfolding span_holds
span_no_last = refl

-- "value 4^l or more": AAA … TTT pass at l = 3, one more gives 10, and 10 comes before 11
pub last_word : first (entry_tests (record { kind = pair; l = 3; m = 10 }) 7 (record { word = 63; one = 0; two = no_place })) sound ≡ given sound
unfolding entry_tests places_hold pair_holds first
last_word = refl

pub no_word : first (entry_tests (record { kind = pair; l = 3; m = 10 }) 7 (record { word = 64; one = 10; two = 10 })) sound ≡ refused Word 7
unfolding entry_tests places_hold pair_holds first
no_word = refl

pub no_places : first (entry_tests (record { kind = span; l = 3; m = 10 }) 7 (record { word = 63; one = 1; two = 9 })) sound ≡ refused Places 7
unfolding entry_tests places_hold span_holds first
no_places = refl

-- "one place, two places, or a span", counted from 0
pub first_place_alone : places_of pair 0 no_place ≡ One 0
unfolding places_of
first_place_alone = refl

pub first_and_third : places_of pair 0 2 ≡ Two 0 2
unfolding places_of
first_and_third = refl

pub span_of_one : places_of span 2 2 ≡ Span 2 2
unfolding places_of
span_of_one = refl

-- how many words have 0 to 12 letters
pub powers_of_four : row (λ (i : ℕ). 4 ^ i) 0 13
    ≡ 1 ∷ 4 ∷ 16 ∷ 64 ∷ 256 ∷ 1024 ∷ 4096 ∷ 16384 ∷ 65536 ∷ 262144 ∷ 1048576 ∷ 4194304 ∷ 16777216 ∷ []
unfolding row
powers_of_four = refl
