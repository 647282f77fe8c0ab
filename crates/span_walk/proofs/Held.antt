-- What holds at the head of the walk's loop, and its laws: a start, a turn, and each way out. Assumes nothing.
use mathlib.Core.Path.{◌≡◌, refl, sym, ap, ◌∙◌}
use mathlib.Core.Logic.{⊎_elim}
use mathlib.Core.Bool.{Bool, true, false, cond, true≢false}
use mathlib.Core.List.{List, [], ◌∷◌, ◌++◌, foldl}
use mathlib.Core.Option.{some}
use Prim.Native.Nat.{ℕ, ◌+◌, ◌-◌, ◌≤◌, ◌<◌}
use native.Mathlib.Omega.{arith}
use lib.ListN.{length, get_or, set, length-append, length-set}
use lib.Seq.{get_or-set_same, get_or-set_other, set-set, set-get_or}
use lib.Bits.{bit_and}
use lib.Dec.{eqb}
use borrow.Author.Tests.{eqb-true}
use Rattle.span_theory.specs.Run.{Run, spent, out_of_budget, reach}
use Rattle.span_theory.proofs.WalkLaws.{walk_end}
use Rattle.span_theory.proofs.Runs.{run_none}
use Rattle.span_tables.specs.Prepared.{list_at}
use Rattle.base_lists.specs.Parts.{part}
use Rattle.base_lists.specs.Members.{In, keep}
use Rattle.span_memory.specs.declared.tally.Tally.{Tally}
use Rattle.span_memory.specs.Tally.{PlacedOne}
use Rattle.span_walk.specs.declared.Slots.{Slots}
use Rattle.span_walk.specs.declared.Walking.{Walking}
use Rattle.span_walk.specs.Steps.{ahead, between, SlotsBelow, Opened, Next}
use Rattle.span_steps.specs.Steps.{WalkTables, is_left, left, able, is_due, opened, tries, no_word, later_on}
use Rattle.span_walk.specs.Going.{Noted, noted, Call, calling, Reader, Shows, none_yet}
use Rattle.span_walk.specs.Going.{one_build, two_builds, stopped, ShowsTo, Ready, SoughtBy, whole, WentOn}
use Rattle.span_walk.proofs.StepLaws.{opened_list, ahead_at_lem}
use Rattle.span_steps.proofs.StepLaws.{in_part, able_left}
use Rattle.span_steps.proofs.PlaceLaws.{list_ends}
use Rattle.span_steps.proofs.Candidates.{Place, Alone, opened_alone, opened_entry, opened_in}
use Rattle.span_walk.proofs.RunLaws.{shows_prefix, shows_spent, shows_reach}
use Rattle.span_walk.proofs.Turns.{turn, turn_spent, turns_two, turns_spent, place_turns}
use Rattle.build_sequence.proofs.LetterLaws.{mask_tail}
use Rattle.base_lists.proofs.FillingLaws.{same_or_not}
use Rattle.span_steps.proofs.SpanLaws.{spans_rise, words_below}

-- a turn of the call's loop, to a reader
abbrev turn_to : Call → Reader → Run → ℕ → Run
turn_to call reader = turn call.tables reader call.notes.marks call.at.i call.at.budget

-- who is able at the call's place
abbrev pub able_at : Call → ℕ → Bool
able_at call = able call.tables.words call.notes.marks call.at.i call.at.want

-- what is tried from the slot k on, where it is tried itself,
abbrev pub ahead_at : Call → ℕ → ℕ → List ℕ
ahead_at call k hi = ahead (able_at call) call.tables.words call.tables.slots k hi

-- and what is tried after the word w
abbrev pub tries_at : Call → ℕ → ℕ → ℕ → List ℕ
tries_at call w from hi = tries (able_at call) (λ j. get_or call.tables.words j 0) w (part call.tables.slots from hi)

-- the run has come so far, and `rest` is still to be tried, a step for each
pub record Along (all : Run) (step : Run → ℕ → Run) (path : List ℕ) (tally : Tally) (first rest : List ℕ) : Type 0 where
  pub so_far : Run
  pub shows : Shows path tally.placed tally.builds first so_far
  pub goes_on : all ≡ foldl step so_far rest

-- the marks are as at the call, and for every reader the run has come so far
pub record Held (call : Call) (now : Noted) (tally : Tally) (rest : List ℕ) : Type 0 where
  pub unmarked : now.marks ≡ call.notes.marks
  pub firsts : length now.first ≡ length call.notes.first
  pub within : tally.placed ≤ call.at.budget
  pub grows : call.at.tally.placed ≤ tally.placed
  pub along : (reader : Reader) (r : Run) → SoughtBy call reader → ShowsTo reader call.at.tally call.notes.first r
      → Along (whole call reader r) (turn_to call reader) reader.path tally now.first rest

-- the slots from k up to hi, each of which may be tried
pub record Open (tables : WalkTables) (marks : List ℕ) (i k hi : ℕ) : Type 0 where
  pub slots_below : SlotsBelow tables.slots k hi (length tables.words)
  pub free : k < hi → is_left marks (get_or tables.slots k 0) ≡ true
  pub alone : (x : ℕ) → k ≤ x → x < hi → Alone i tables.words tables.twos marks (get_or tables.slots x 0)
  pub here : (x : ℕ) → k ≤ x → x < hi → In (get_or tables.slots x 0) (list_at tables.starts tables.slots i)

-- the place after
pub record OneOn (at below : Walking) : Type 0 where
  pub place : below.i ≡ at.i + 1
  pub mask : below.mask ≡ at.mask
  pub budget : below.budget ≡ at.budget

-- what holds at the head of the loop, at slot k
pub record Looping (call : Call) (now : Noted) (tally : Tally) (k hi : ℕ) : Type 0 where
  pub held : Held call now tally (ahead_at call k hi)
  pub open_slots : Open call.tables call.notes.marks call.at.i k hi
  pub going : tally.builds < 2
  pub inside : call.at.i < length call.tables.words

-- ---- the ways out

module _ {call : Call} {now : Noted} {tally : Tally} where
  -- nothing is left to try
  pub held_end : {rest : List ℕ} → Held call now tally rest → rest ≡ [] → WentOn call now tally
  held_end {rest} h e = record {
    unmarked = h.unmarked;
    firsts = h.firsts;
    within = h.within;
    grows = h.grows;
    runs = λ reader r s w. let a = h.along reader r s w in
        rw (a.goes_on ∙ ap (foldl (turn_to call reader) a.so_far) e) a.shows;
  }

  -- a second build is complete, or the budget was spent below
  pub held_over : {rest : List ℕ} → Held call now tally rest → 2 ≤ tally.builds → WentOn call now tally
  held_over {rest} h over = record {
    unmarked = h.unmarked;
    firsts = h.firsts;
    within = h.within;
    grows = h.grows;
    runs = λ reader r s w. let a = h.along reader r s w in rw a.goes_on (stays reader a.so_far a.shows over);
  }
    where
      stays : (reader : Reader) {n st : ℕ} {f : List ℕ} (x : Run) → Shows reader.path n st f x → 2 ≤ st
          → Shows reader.path n st f (foldl (turn_to call reader) x rest)
      stays reader x (none_yet e) g = absurd (omega arith)
      stays reader x one_build g = absurd (omega arith)
      stays reader x (two_builds {n} {first = f}) g =
          rw (turns_two call.tables reader call.notes.marks call.at.i call.at.budget f n rest) two_builds
      stays reader x stopped g =
          rw (turns_spent call.tables reader call.notes.marks call.at.i call.at.budget rest) stopped

  -- a placement is to be made, and the budget is spent
  pub held_spent : {e : ℕ} {rest : List ℕ} → Held call now tally (e ∷ rest) → tally.builds < 2 → tally.placed ≡ call.at.budget
      → WentOn call now (record { placed = call.at.budget; builds = out_of_budget })
  held_spent {e} {rest} h few at-end = record {
    unmarked = h.unmarked;
    firsts = h.firsts;
    within = omega arith;
    grows = omega (arith, h.grows);
    runs = λ reader r s w. let a = h.along reader r s w in
        rw a.goes_on (ends reader a.so_far (shows_spent (length call.tables.words) call.at.budget a.shows few at-end
        (reader.path ++ (get_or call.tables.words e 0 ∷ []))));
  }
    where
      ends : (reader : Reader) (x : Run)
          → reach (length call.tables.words) call.at.budget x (reader.path ++ (get_or call.tables.words e 0 ∷ [])) ≡ spent
          → Shows reader.path call.at.budget out_of_budget now.first (foldl (turn_to call reader) x (e ∷ rest))
      ends reader x q =
          rw (turn_spent call.tables reader call.notes.marks call.at.i call.at.budget x e q)
          (rw (turns_spent call.tables reader call.notes.marks call.at.i call.at.budget rest) stopped)

-- ---- the start

module _ {call : Call} (ready : Ready call) where
  abbrev words : List ℕ
  words = call.tables.words

  abbrev twos : List ℕ
  twos = call.tables.twos

  abbrev starts : List ℕ
  starts = call.tables.starts

  abbrev slots : List ℕ
  slots = call.tables.slots

  abbrev marks : List ℕ
  marks = call.notes.marks

  abbrev i : ℕ
  i = call.at.i

  -- the place is past the last one: nothing is reached
  pub ready_end : i ≡ length words → WentOn call call.notes call.at.tally
  ready_end e = record {
    unmarked = refl;
    firsts = refl;
    within = ready.within;
    grows = omega arith;
    runs = λ reader r s w. let none : length words - i ≡ 0 = omega arith in
        rw (
          none,
          walk_end reader.l i reader.previous (left words reader.ones twos marks),
          run_none (length words) call.at.budget r,
        ) w;
  }

  abbrev own_place : i < length words → Place i call.tables ready.ones marks
  own_place inside = record { prepared = ready.prepared; spans = ready.spans; past = ready.stands.past; inside = inside }

  module _ (inside : i < length words) {all these : Slots} {k : ℕ} (lo_is : all.lo ≡ get_or starts i 0)
      (hi-is : all.hi ≡ get_or starts (i + 1) 0)
      (open_is : Opened slots twos marks i all these)
      (next : Next (able_at call) words slots no_word these k) where
    pub held_start : Held call call.notes call.at.tally (ahead_at call k these.hi)
    held_start = record {
      unmarked = refl;
      firsts = refl;
      within = ready.within;
      grows = omega arith;
      along = λ reader r s w. record {
        so_far = r;
        shows = w;
        goes_on = place_turns reader (read reader s) s.wants ready.marks_room (words_below s.card) call.at.budget r lo_is hi-is open_is
            next;
      };
    }
      where
        read : (reader : Reader) → SoughtBy call reader → Place i call.tables reader.ones marks
        read reader s = record { prepared = s.prepared; spans = spans_rise s.card; past = ready.stands.past; inside = inside }

    -- the slots that may be tried
    pub open_start : Open call.tables marks i k these.hi
    open_start = record {
      slots_below = record { in_order = next.within; ends = there; below = λ x from to. opened_entry (own_place inside) (get_or slots x 0) (x_in x from to) };
      free = λ h. able_left words marks i call.at.want (get_or slots k 0) (next.able_there h);
      alone = λ x from to. opened_alone (own_place inside) (get_or slots x 0) (x_in x from to);
      here = λ x from to. opened_in (own_place inside) (get_or slots x 0) (x_in x from to);
    }
      where
        there : these.hi ≤ length slots
        there = omega (arith, open_is.to, list_ends ready.prepared inside lo_is hi-is)

        x_in : (x : ℕ) → k ≤ x → x < these.hi → In (get_or slots x 0)
            (opened (keep (is_due twos marks i) (list_at starts slots i)) (list_at starts slots i))
        x_in x from to =
            rw (opened_list starts lo_is hi-is open_is) at
            (in_part slots these.lo these.hi x (omega (arith, next.on)) to there)

-- ---- a turn

module _ {call : Call} {now : Noted} {tally : Tally} where
  -- the entry at slot k is tried
  pub held_at : {k hi : ℕ} → k < hi → Held call now tally (ahead_at call k hi)
      → Held call now tally
      (get_or call.tables.slots k 0 ∷ tries_at call (get_or call.tables.words (get_or call.tables.slots k 0) 0) (k + 1) hi)
  held_at {k} {hi} h held = rw (ahead_at_lem (able_at call) call.tables.words call.tables.slots k hi h) at held

  -- the next that is tried stands at slot k'
  pub held_next : {w from hi k' : ℕ} → Held call now tally (tries_at call w from hi)
      → Next (able call.tables.words now.marks call.at.i call.at.want) call.tables.words call.tables.slots w
      (between from hi) k'
      → Held call now tally (ahead_at call k' hi)
  held_next {w} {from} {hi} {k'} held n = rw next_is at held
    where
      next_is : tries_at call w from hi ≡ ahead_at call k' hi
      next_is = rw held.unmarked at n.rest

-- the entry e at slot k is to be tried
pub record Turning (call : Call) (now : Noted) (tally : Tally) (k hi e : ℕ) : Type 0 where
  pub held : Held call now tally (e ∷ tries_at call (get_or call.tables.words e 0) (k + 1) hi)
  pub low : e < length call.tables.words
  pub free : is_left call.notes.marks e ≡ true
  pub alone : Alone call.at.i call.tables.words call.tables.twos call.notes.marks e
  pub here : In e (list_at call.tables.starts call.tables.slots call.at.i)

pub looping_turn : {call : Call} {now : Noted} {tally : Tally} {k hi e : ℕ} → Looping call now tally k hi → k < hi
    → e ≡ get_or call.tables.slots k 0
    → Turning call now tally k hi e
looping_turn {k} o h q = rw q record {
  held = held_at h o.held;
  low = o.open_slots.slots_below.below k (omega arith) h;
  free = o.open_slots.free h;
  alone = o.open_slots.alone k (omega arith) h;
  here = o.open_slots.here k (omega arith) h;
}

pub open_next : {tables : WalkTables} {marks₀ marks : List ℕ} {i w k hi k' : ℕ} (want : ℕ) → Open tables marks₀ i k hi → marks ≡ marks₀
    → Next (able tables.words marks i want) tables.words tables.slots w (between (k + 1) hi) k'
    → Open tables marks₀ i k' hi
open_next {tables} {marks₀} {marks} {i} {k'} want o e n = record {
  slots_below = record { in_order = n.within; ends = o.slots_below.ends; below = λ x from to. o.slots_below.below x (omega (arith, n.on)) to };
  free = λ h. rw e at (able_left tables.words marks i want (get_or tables.slots k' 0) (n.able_there h));
  alone = λ x from to. o.alone x (omega (arith, n.on)) to;
  here = λ x from to. o.here x (omega (arith, n.on)) to;
}

-- ---- the placement of an entry, and the walk below it

module _ {call : Call} {now : Noted} {tally : Tally} {below : Walking} {kept : List ℕ} {e : ℕ} {rest : List ℕ}
    (ready : Ready call)
    (held : Held call now tally (e ∷ rest))
    (inside : call.at.i < length call.tables.words)
    (low : e < length call.tables.words)
    (free : is_left call.notes.marks e ≡ true)
    (going : tally.builds < 2)
    (room : tally.placed < call.at.budget)
    (kept_is : kept ≡ cond (eqb tally.builds 0) (set now.first call.at.i (get_or call.tables.words e 0)) now.first)
    (one_on : OneOn call.at below)
    (want_is : below.want ≡ bit_and (get_or call.tables.words e 0) call.at.mask)
    (counted : PlacedOne call.at.i (length call.tables.words) tally below.tally) where
  abbrev w : ℕ
  w = get_or call.tables.words e 0

  -- the call below
  abbrev next_call : Call
  next_call = calling call.tables below (noted (set now.marks e 1) kept)

  kept_length : length kept ≡ length call.tables.words
  kept_length = rw kept_is (go (eqb tally.builds 0))
    where
      go : (b : Bool) → length (cond b (set now.first call.at.i w) now.first) ≡ length call.tables.words
      go true = length-set now.first call.at.i w ∙ held.firsts ∙ ready.firsts_all
      go false = held.firsts ∙ ready.firsts_all

  marked : e < length now.marks
  marked = omega (arith, ready.marks_room, ap length held.unmarked)

  -- it is made where no entry that is left ends before its place, and those that are placed and do not are in its list
  pub ready_below : Alone call.at.i call.tables.words call.tables.twos call.notes.marks e
      → In e (list_at call.tables.starts call.tables.slots call.at.i)
      → Ready next_call
  ready_below alone here = record {
    ones = ready.ones;
    prepared = ready.prepared;
    spans = ready.spans;
    twos_all = ready.twos_all;
    marks_room = omega (arith, length-set now.marks e 1, ap length held.unmarked, ready.marks_room);
    firsts_all = kept_length;
    numbered = ready.numbered;
    inside = omega (arith, one_on.place);
    within = omega (arith, counted.count, one_on.budget);
    few_builds = ⊎_elim (λ e. omega (arith, counted.last e)) (λ n. omega (arith, counted.other (omega arith)))
        (same_or_not (call.at.i + 1) (length call.tables.words));
    going = λ h. omega (arith, counted.other (omega (arith, one_on.place)));
    stands = record {
      past = λ x low left_is. let n = other x left_is in
          omega (arith, one_on.place, alone.others x low (rw (get_or-set_other now.marks e x 1 0 n, held.unmarked) at left_is) n);
      begun = λ h x low marked-is lasts. ready.prepared.there below.i x h low
          (⊎_elim (λ q. rw q (begins e here)) (λ n. begins x (before_it x low n marked-is (omega (arith, one_on.place)))) (same_or_not x e))
          lasts;
    };
  }
    where
      begins : (x : ℕ) → In x (list_at call.tables.starts call.tables.slots call.at.i) → get_or ready.ones x 0 ≤ below.i
      begins x m = omega (arith, one_on.place, (ready.prepared.here call.at.i x inside m).1)

      before_it : (x : ℕ) → x < length call.tables.words → (x ≡ e → ⊥) → is_left (set now.marks e 1) x ≡ false
          → call.at.i ≤ get_or call.tables.twos x 0
          → In x (list_at call.tables.starts call.tables.slots call.at.i)
      before_it x low n h lasts = ready.stands.begun inside x low (rw (get_or-set_other now.marks e x 1 0 n, held.unmarked) at h) lasts

      other : (x : ℕ) → is_left (set now.marks e 1) x ≡ true → x ≡ e → ⊥
      other x h q = true≢false (sym (rw (q, get_or-set_same now.marks e 1 0 marked) at h))

  -- after it: the entry is left again, and the run has come a turn further
  module _ {after : Noted} {more : Tally} (went : WentOn next_call after more) where
    unmarked_again : set after.marks e 0 ≡ call.notes.marks
    unmarked_again =
        ap (λ (l : List ℕ). set l e 0) went.unmarked ∙ set-set now.marks e 1 0 ∙ ap (set now.marks e) (sym zero_there)
        ∙ set-get_or now.marks e 0 ∙ held.unmarked
      where
        zero_there : get_or now.marks e 0 ≡ 0
        zero_there = rw held.unmarked (eqb-true (get_or call.notes.marks e 0) 0 free)

    module _ {reader : Reader} (s : SoughtBy call reader) where
      -- the reader of the call below
      abbrev next_reader : Reader
      next_reader = record { l = reader.l; ones = reader.ones; previous = some w; path = reader.path ++ (w ∷ []) }

      sought_below : SoughtBy next_call next_reader
      sought_below = rw (one_on.place, one_on.mask, want_is) record {
        card = s.card;
        prepared = s.prepared;
        masks = s.masks;
        wants = later_on {i = call.at.i + 1} (omega arith) (mask_tail reader.l call.at.mask w s.masks);
        as_far = length-append reader.path (w ∷ []) ∙ ap (λ n. n + 1) s.as_far;
      }

      reached_below : {r : Run} → ShowsTo reader tally now.first r
          → ShowsTo next_reader below.tally kept (reach (length call.tables.words) call.at.budget r (reader.path ++ (w ∷ [])))
      reached_below shown =
          let at_path : PlacedOne (length reader.path) (length call.tables.words) tally below.tally = rw s.as_far counted in
          let at_place = shows_reach (length call.tables.words) call.at.budget w shown going room (held.firsts ∙ ready.firsts_all)
          (omega (arith, s.as_far)) at_path in
          rw kept_is (rw s.as_far at at_place)

      turned : {r : Run} → ShowsTo reader tally now.first r → ShowsTo reader more after.first (turn_to call reader r e)
      unfolding turn
      turned {r} shown =
          let run-below = went.runs next_reader (reach (length call.tables.words) call.at.budget r (reader.path ++ (w ∷ []))) sought_below
          (reached_below shown) in
          shows_prefix reader.path w (rw (one_on.place, one_on.budget, held.unmarked) at run-below)

    pub held_turn : Held call (noted (set after.marks e 0) after.first) more rest
    held_turn = record {
      unmarked = unmarked_again;
      firsts = went.firsts ∙ kept_length ∙ sym ready.firsts_all;
      within = omega (arith, went.within, one_on.budget);
      grows = omega (arith, held.grows, counted.count, went.grows);
      along = λ reader r s shown. let a = held.along reader r s shown in
          record { so_far = turn_to call reader a.so_far e; shows = turned s a.shows; goes_on = a.goes_on };
    }

-- a turn of the loop, at slot k: the call below it can be made, and after that the run has come a turn further
module _ {call : Call} {now : Noted} {tally : Tally} {below : Walking} {kept : List ℕ} {k hi e : ℕ}
    (ready : Ready call)
    (o : Looping call now tally k hi)
    (h : k < hi)
    (entry : e ≡ get_or call.tables.slots k 0)
    (room : tally.placed ≡ call.at.budget → ⊥)
    (kept_is : kept ≡ cond (eqb tally.builds 0) (set now.first call.at.i (get_or call.tables.words e 0)) now.first)
    (one_on : OneOn call.at below)
    (want_is : below.want ≡ bit_and (get_or call.tables.words e 0) call.at.mask)
    (counted : PlacedOne call.at.i (length call.tables.words) tally below.tally) where
  abbrev turning : Turning call now tally k hi e
  turning = looping_turn o h entry

  left_over : tally.placed < call.at.budget
  left_over = omega (arith, o.held.within, room)

  pub looping_below : Ready (calling call.tables below (noted (set now.marks e 1) kept))
  looping_below =
      ready_below ready turning.held o.inside turning.low turning.free o.going left_over kept_is one_on want_is counted turning.alone turning.here

  pub looping_over : {after : Noted} {more : Tally} → WentOn (calling call.tables below (noted (set now.marks e 1) kept)) after more
      → Held call (noted (set after.marks e 0) after.first) more (tries_at call (get_or call.tables.words e 0) (k + 1) hi)
  looping_over went =
      held_turn ready turning.held o.inside turning.low turning.free o.going left_over kept_is one_on want_is counted went
