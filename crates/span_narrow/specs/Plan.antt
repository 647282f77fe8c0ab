-- A span card with the lists of its places, which tell where each span begins.
--   Plan                           == the letters of a word, word, first and last place of each entry, and the lists of the places
--   first_with test n i             == the first of the n numbers from i on for which the test holds, or the number after them
--   is_listed starts slots j i      == the list of the place i has the entry j
--   first_places starts slots m     == of each of m entries the first place whose list has it: where its span begins
--   plan_of l words twos starts slots
--                                  == the plan of these lists
--   plan_in c                       == the same of the struct that the code reads
--   list_on plan i                  == the list of the place i
--   left_on plan marks              == the entries that are left
--   Planned plan                   == lists of a span card, with the lists of its places, none of which is crowded
-- Assumes nothing.
use Rattle.std.specs.Prelude.{Bool, cond, List, ℕ, zero, suc, ◌+◌, ◌≤◌, ◌<◌, eqb, length, get_or}
use Rattle.base_lists.specs.Row.{row}
use Rattle.card_entries.specs.declared.Slot.{Slot}
use Rattle.base_lists.specs.Members.{keep}
use Rattle.span_layers.specs.Narrow.{most_over}
use Rattle.span_layers.specs.Completed.{is_some}
use Rattle.card_entries.specs.KindLists.{SpanLists}
use Rattle.span_tables.specs.Prepared.{Prepared, list_at}
use Rattle.span_steps.specs.Steps.{left}
use Rattle.span_narrow.specs.declared.Layout.{Layout}

pub record Plan : Type 0 where
  pub l : ℕ
  pub words : List ℕ
  pub ones : List ℕ
  pub twos : List ℕ
  pub starts : List ℕ
  pub slots : List ℕ

unfoldable pub first_with : (ℕ → Bool) → ℕ → ℕ → ℕ
first_with test zero i = i
first_with test (suc n) i = cond (test i) i (first_with test n (suc i))

abbrev pub is_listed : List ℕ → List ℕ → ℕ → ℕ → Bool
is_listed starts slots j i = is_some (keep (λ k. eqb k j) (list_at starts slots i))

unfoldable pub first_places : List ℕ → List ℕ → ℕ → List ℕ
first_places starts slots m = row (λ j. first_with (is_listed starts slots j) m 0) 0 m

-- the code is lent no list of the first places
abbrev pub plan_of : ℕ → List ℕ → List ℕ → List ℕ → List ℕ → Plan
plan_of l words twos starts slots =
    record { l = l; words = words; ones = first_places starts slots (length words); twos = twos; starts = starts; slots = slots }

abbrev pub plan_in : Layout → Plan
plan_in c = plan_of c.l c.tables.words.now c.tables.twos.now c.tables.starts.now c.tables.slots.now

abbrev pub list_on : Plan → ℕ → List ℕ
list_on plan i = list_at plan.starts plan.slots i

abbrev pub left_on : Plan → List ℕ → List Slot
left_on plan marks = left plan.words plan.ones plan.twos marks

pub record Planned (plan : Plan) : Type 0 where
  pub card : SpanLists plan.l plan.words plan.ones plan.twos
  pub prepared : Prepared plan.words plan.ones plan.twos plan.starts plan.slots
  pub few : (i : ℕ) → i < length plan.words → get_or plan.starts (suc i) 0 ≤ get_or plan.starts i 0 + most_over
