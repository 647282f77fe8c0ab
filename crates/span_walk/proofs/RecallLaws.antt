-- Laws of what the memory says of the walk: equal keys are equal states, what is remembered is true, and what is told of a state is what the
-- walk would come to. Assumes nothing.
use mathlib.Core.Path.{◌≡◌, refl, sym, ap, ◌∙◌}
use mathlib.Core.Logic.{⊎_elim}
use mathlib.Core.Bool.{Bool, true, false}
use mathlib.Core.List.{List, ◌++◌, map}
use Prim.Native.Nat.{ℕ, zero, suc, ◌+◌, ◌*◌, ◌-◌, ◌≤◌, ◌<◌}
use native.Mathlib.Omega.{arith}
use lib.ListN.{length, take, replicate, length-map, length-replicate, get_or-replicate}
use lib.Seq.{length-take-le}
use Rattle.base_lists.specs.Members.{In}
use Rattle.base_lists.specs.Numbers.{numbers}
use Rattle.base_lists.proofs.FillingLaws.{lt_or_le}
use Rattle.span_theory.specs.Run.{Run, searching, one, run}
use Rattle.span_theory.proofs.Indices.{numbers_in}
use Rattle.span_memory.specs.declared.tally.Tally.{Tally}
use Rattle.span_memory.specs.Tally.{PlacedMore}
use Rattle.span_memory.specs.Memory as memory
use Rattle.span_memory.specs.Memory.{bits_of, KeyOf, KeyOf, Told, Stored}
use Rattle.span_memory.proofs.KeyLaws.{bits_same, key_tells}
use Rattle.span_tables.specs.Prepared.{list_at}
use Rattle.span_steps.specs.Steps.{WalkTables, is_left, span_at, left}
use Rattle.span_steps.proofs.LeftLaws.{left_is}
use Rattle.span_walk.specs.Going.{Noted, Call, Reader, Shows, none_yet, one_build, stopped, Stands, Ready, SoughtBy, reached, ShowsTo, WentOn}
use Rattle.span_walk.specs.Recalling.{DeadIn, Ends, Recalls}
use Rattle.base_lists.proofs.KeepLaws.{keep_same}
use Rattle.span_walk.proofs.DeadLaws.{dead_after, after_dead, run_over, run_fits, run_kept}

-- ---- equal keys are equal states

module _ {tables : WalkTables} {marks marks' : List ℕ} {i : ℕ} (inside : i < length tables.words) (st : Stands tables marks i)
    (st' : Stands tables marks' i)
    (same : (j : ℕ) → In j (list_at tables.starts tables.slots i) → is_left marks j ≡ is_left marks' j) where
  mark_same : (k : ℕ) → k < length tables.words → is_left marks k ≡ is_left marks' k
  mark_same k below = go (is_left marks k) (is_left marks' k) refl refl
    where
      go : (a b : Bool) → is_left marks k ≡ a → is_left marks' k ≡ b → a ≡ b
      go true true e f = refl
      go true false e f = sym e ∙ same k (st'.begun inside k below f (st.past k below e)) ∙ f
      go false true e f = sym e ∙ same k (st.begun inside k below e (st'.past k below f)) ∙ f
      go false false e f = refl

  left_same : (ones : List ℕ) → left tables.words ones tables.twos marks ≡ left tables.words ones tables.twos marks'
  left_same ones =
      left_is tables.words ones tables.twos marks
      ∙ ap (map (span_at tables.words ones tables.twos)) (keep_same (is_left marks) (is_left marks') (numbers 0 (length tables.words))
      (λ k m. mark_same k (omega (arith, numbers_in 0 (length tables.words) k m))))
      ∙ sym (left_is tables.words ones tables.twos marks')

  ends_same : {mask want size : ℕ} → Ends tables mask marks i want size → Ends tables mask marks' i want size
  ends_same e = record { each = λ reader s. rw (left_same reader.ones) at (e.each reader s) }

module _ {tables : WalkTables} {marks marks' : List ℕ} {i i' want want' key : ℕ} (inside : i < length tables.words)
    (st : Stands tables marks i)
    (st' : Stands tables marks' i')
    (k : KeyOf marks (list_at tables.starts tables.slots i) i want key)
    (k' : KeyOf marks' (list_at tables.starts tables.slots i') i' want' key) where
  abbrev list : ℕ → List ℕ
  list = list_at tables.starts tables.slots

  key_ends : {mask size : ℕ} → Ends tables mask marks i want size → Ends tables mask marks' i' want' size
  key_ends ends =
      let tells = key_tells k k' in
      let place : i' ≡ i = sym tells.0 in
      let bits : bits_of marks (list i) ≡ bits_of marks' (list i) = tells.1 ∙ ap (λ x. bits_of marks' (list x)) place in
      let at : Stands tables marks' i = rw place at st' in
      rw (place, sym tells.2) (ends_same inside st at (bits_same marks marks' (list i) bits) ends)

-- a memory of zeros tells nothing
pub recalls_none : {known : List ℕ} (tables : WalkTables) (mask : ℕ) → known ≡ replicate memory.memory_length 0 → Recalls tables mask known
recalls_none tables mask e = rw e record {
  all = length-replicate {A = ℕ} memory.memory_length 0;
  each = λ s h marks i want st k. absurd (omega (arith, k.made, get_or-replicate {A = ℕ} memory.memory_length (2 * s) 0 0 (omega arith)));
}

-- a run that has come so far, whatever it has found
start_shows : (s n : ℕ) (path first : List ℕ) → s < 2 → take (length path) first ≡ path → (r : Run) × Shows path n s first r
start_shows zero n path first h e = (searching n, none_yet e)
start_shows (suc zero) n path first h e = (one first n, one_build)
start_shows (suc (suc s)) n path first h e = absurd (omega arith)

-- ---- what is told of a state

module _ {call : Call} (ready : Ready call) (inside : call.at.i < length call.tables.words) where
  abbrev words : List ℕ
  words = call.tables.words

  abbrev marks : List ℕ
  marks = call.notes.marks

  abbrev i : ℕ
  i = call.at.i

  abbrev mask : ℕ
  mask = call.at.mask

  abbrev want : ℕ
  want = call.at.want

  abbrev budget : ℕ
  budget = call.at.budget

  abbrev before : Tally
  before = call.at.tally

  -- the list of the call's place
  abbrev own_list : List ℕ
  own_list = list_at call.tables.starts call.tables.slots i

  ends_told : {known : List ℕ} {key size : ℕ} → Recalls call.tables mask known → KeyOf marks own_list i want key → Told known key size
      → Ends call.tables mask marks i want size
  ends_told recalls keyed told =
      rw told.size_is at
      (recalls.each told.cell told.inside marks i want ready.stands (rw told.key_is keyed))

  ends_went : {size : ℕ} {after : Tally} → Ends call.tables mask marks i want size → PlacedMore size budget before after
      → WentOn call call.notes after
  ends_went {size} {after} ends more = ⊎_elim over fits (lt_or_le budget (before.placed + size))
    where
      reached_after : Reader → List (List ℕ)
      reached_after reader = map (λ ws. reader.path ++ ws) (reached call.tables reader marks i)

      ended : (reader : Reader) → SoughtBy call reader → DeadIn (length words) size (reached_after reader)
      ended reader s =
          let e = ends.each reader s in
          record {
            dead = dead_after reader.path (length words - i) (length words) (omega (arith, s.as_far)) e.dead;
            long = length-map (reached call.tables reader marks i) (λ ws. reader.path ++ ws) ∙ e.long;
          }

      shown : {n st : ℕ} → n ≤ budget → before.placed ≤ n
          → ((reader : Reader) (r : Run) → SoughtBy call reader → ShowsTo reader before call.notes.first r
          → Shows reader.path n st call.notes.first (run (length words) budget r (reached_after reader)))
          → after.placed ≡ n → after.builds ≡ st → WentOn call call.notes after
      shown within grows runs placed-is builds_is = record {
        unmarked = refl;
        firsts = refl;
        within = omega arith;
        grows = omega arith;
        runs = λ reader r s w. rw (placed-is, builds_is) (runs reader r s w);
      }

      over : budget < before.placed + size → WentOn call call.notes after
      over h = shown (omega arith) ready.within (λ reader r s w. let e = ended reader s in
          rw (run_over (length words) budget e.dead w (ready.going inside) ready.within (omega (arith, e.long))) stopped)
          (more.over h).0 (more.over h).1

      fits : before.placed + size ≤ budget → WentOn call call.notes after
      fits h = shown h (omega arith) (λ reader r s w. let e = ended reader s in
          rw e.long at (run_fits (length words) budget e.dead w (ready.going inside) (omega (arith, e.long))))
          (more.fits h).0 (more.fits h).1

  -- what the memory tells is what the walk would come to
  pub told_went : {known : List ℕ} {key size : ℕ} {after : Tally} → Recalls call.tables mask known → KeyOf marks own_list i want key
      → Told known key size
      → PlacedMore size budget before after
      → WentOn call call.notes after
  told_went recalls keyed told more = ends_went (ends_told recalls keyed told) more

  -- ---- what is remembered of a state

  went_ends : {now : Noted} {size : ℕ} {after : Tally} → WentOn call now after → after.builds ≡ before.builds
      → before.placed + size ≡ after.placed
      → Ends call.tables mask marks i want size
  went_ends {size} went same sum = record { each = λ reader s. ended reader (read reader s) }
    where
      stood : List ℕ
      stood = take i call.notes.first

      stood_all : length stood ≡ i
      stood_all = length-take-le i call.notes.first (omega (arith, ready.firsts_all))

      -- the reader, where the words before are those that stand
      here : Reader → Reader
      here reader = record { l = reader.l; ones = reader.ones; previous = reader.previous; path = stood }

      read : (reader : Reader) → SoughtBy call reader → SoughtBy call (here reader)
      read reader s = record { card = s.card; prepared = s.prepared; masks = s.masks; wants = s.wants; as_far = stood_all }

      shown : (r : Run) × Shows stood before.placed before.builds call.notes.first r
      shown =
          start_shows before.builds before.placed stood call.notes.first (ready.going inside)
          (ap (λ n. take n call.notes.first) stood_all)

      ended : (reader : Reader) → SoughtBy call (here reader) → DeadIn (length words - i) size (reached call.tables reader marks i)
      ended reader s =
          let below = reached call.tables reader marks i in
          let told = rw same at (went.runs (here reader) shown.0 s shown.1) in
          let k = run_kept (length words) budget (map (λ ws. stood ++ ws) below) shown.1 (ready.going inside) told in
          record {
            dead = after_dead stood (length words - i) (length words) (omega (arith, stood_all)) below k.0;
            long = omega (arith, k.1, length-map below (λ ws. stood ++ ws));
          }

  pub recalls_stored : {known known' : List ℕ} {key : ℕ} {now : Noted} {after : Tally} → Recalls call.tables mask known
      → KeyOf marks own_list i want key
      → WentOn call now after
      → Stored known known' key before after
      → Recalls call.tables mask known'
  recalls_stored recalls keyed went stored = record {
    all = stored.all ∙ recalls.all;
    each = λ s h marks° i° want° st k. ⊎_elim
        (λ q. rw q.1 (recalls.each s h marks° i° want° st (rw q.0 at k)))
        (λ q. key_ends inside ready.stands st keyed (rw q.2 at k) (went_ends went q.0 q.3))
        (stored.each s h);
  }
