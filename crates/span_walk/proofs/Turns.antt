-- The run at a place is a fold over what the code tries there, a turn of its loop for each; a turn is a placement and the run below it.
-- Assumes nothing.
use mathlib.Core.Path.{◌≡◌, refl, sym, ap, ◌∙◌}
use mathlib.Core.Bool.{Bool, ◌&&◌, not}
use mathlib.Core.List.{List, [], ◌∷◌, ◌++◌, map, foldl}
use mathlib.Core.Option.{Option, some}
use Prim.Native.Nat.{ℕ, suc, ◌+◌, ◌-◌, ◌≤◌, ◌<◌}
use native.Mathlib.Omega.{arith}
use native.Mathlib.Numerals.{add-one}
use lib.ListN.{length, get_or, set}
use lib.Dec.{eqb}
use Rattle.card_entries.specs.declared.Slot.{Slot}
use Rattle.base_lists.specs.Members.{keep}
use Rattle.base_lists.specs.Numbers.{numbers}
use Rattle.span_theory.specs.Walk.{walk}
use Rattle.span_theory.specs.Run.{Run, two, spent, reach, run}
use Rattle.span_theory.proofs.Order.{firsts}
use Rattle.span_theory.proofs.Runs.{reach_two, reach_spent, run_place, run_two, run_spent}
use Rattle.span_tables.specs.Prepared.{list_at}
use Rattle.span_walk.specs.declared.Slots.{Slots}
use Rattle.span_walk.specs.Steps.{ahead, Opened, Next}
use Rattle.span_steps.specs.Steps.{WalkTables, is_left, span_at, left, able, is_due, opened, tries, no_word, Wants}
use Rattle.span_walk.specs.Going.{Reader}
use Rattle.span_walk.proofs.StepLaws.{opened_list}
use Rattle.span_steps.proofs.Candidates.{Place, candidates, opened_entry}
use Rattle.span_steps.proofs.TriedLaws.{tries_in, tries_firsts}
use Rattle.span_walk.proofs.RunLaws.{fold_same}
use Rattle.span_steps.proofs.LeftLaws.{left_is, left_marked}
use Rattle.span_steps.proofs.OrderLaws.{sooner_is, rising_each}

module _ (tables : WalkTables) (reader : Reader) (marks : List ℕ) (i budget : ℕ) where
  -- the words that stand once the entry j is placed
  abbrev path_with : ℕ → List ℕ
  path_with j = reader.path ++ (get_or tables.words j 0 ∷ [])

  -- a placement of the entry j, and the run below it
  unfoldable pub turn : Run → ℕ → Run
  turn s j =
      run (length tables.words) budget (reach (length tables.words) budget s (path_with j))
      (map (λ ws. reader.path ++ (get_or tables.words j 0 ∷ []) ++ ws)
      (walk reader.l (length tables.words - (i + 1)) (i + 1) (some (get_or tables.words j 0))
      (left tables.words reader.ones tables.twos (set marks j 1))))

  pub turn_spent : (s : Run) (j : ℕ) → reach (length tables.words) budget s (path_with j) ≡ spent → turn s j ≡ spent
  unfolding turn
  turn_spent s j e = rw e (run_spent (length tables.words) budget _)

  -- a run that is over stays as it is
  pub turns_two : (ws : List ℕ) (n : ℕ) (js : List ℕ) → foldl turn (two ws n) js ≡ two ws n
  unfolding turn
  turns_two ws n [] = refl
  turns_two ws n (j ∷ js) =
      rw (reach_two (length tables.words) budget ws n (path_with j), run_two (length tables.words) budget ws n _) (turns_two ws n js)

  pub turns_spent : (js : List ℕ) → foldl turn spent js ≡ spent
  turns_spent [] = refl
  turns_spent (j ∷ js) = ap (λ r. foldl turn r js) (turn_spent spent j (reach_spent (length tables.words) budget _)) ∙ turns_spent js

module _ {tables : WalkTables} (reader : Reader) {marks : List ℕ} {i want : ℕ} (place : Place i tables reader.ones marks)
    (wants : Wants reader.l i want reader.previous) (marked : length tables.words ≤ length marks)
    (words_are : (j : ℕ) → j < length tables.words → get_or tables.words j 0 < no_word) where
  abbrev words : List ℕ
  words = tables.words

  abbrev ones : List ℕ
  ones = reader.ones

  abbrev twos : List ℕ
  twos = tables.twos

  abbrev l : ℕ
  l = reader.l

  abbrev p : Option ℕ
  p = reader.previous

  abbrev path : List ℕ
  path = reader.path

  abbrev entry : ℕ → Slot
  entry = span_at words ones twos

  abbrev table : List ℕ
  table = list_at tables.starts tables.slots i

  abbrev opens : List ℕ
  opens = opened (keep (is_due twos marks i) table) table

  abbrev word : ℕ → ℕ
  word j = (entry j).word

  abbrev last : ℕ → ℕ
  last j = (entry j).two

  abbrev ok : ℕ → Bool
  ok = able words marks i want

  abbrev left_over : List ℕ
  left_over = keep (is_left marks) (numbers 0 (length words))

  module _ (budget : ℕ) where
    abbrev placing : Run → ℕ → Run
    placing s j =
        run (length words) budget (reach (length words) budget s (path ++ (word j ∷ [])))
        (map (λ ws. path ++ (word j ∷ []) ++ ws)
        (walk l (length words - (i + 1)) (suc i) (some (word j)) (map entry (keep (λ k. is_left marks k && not (eqb k j))
        (numbers 0 (length words))))))

    abbrev turning : Run → ℕ → Run
    turning = turn tables reader marks i budget

    turn_is : (s : Run) (j : ℕ) → j < length words → placing s j ≡ turning s j
    unfolding turn
    turn_is s j h =
        rw (left_marked words ones twos marks j (omega arith)) (ap
        (λ n. run (length words) budget (reach (length words) budget s (path ++ (word j ∷ [])))
        (map (λ ws. path ++ (word j ∷ []) ++ ws)
        (walk l (length words - (i + 1)) n (some (word j)) (map entry (keep (λ k. is_left marks k && not (eqb k j)) (numbers 0
        (length words)))))))
        (sym (add-one i)))

    -- the run at the place, over what the place's list opens
    place_run : (r : Run)
        → run (length words) budget r (map (λ ws. path ++ ws) (walk l (length words - i) i p (left words ones twos marks)))
        ≡ foldl turning r (tries ok word no_word opens)
    place_run r =
        rw (left_is words ones twos marks)
        (ap (λ n. run (length words) budget r (map (λ ws. path ++ ws) (walk l n i p (map entry left_over)))) one_less
        ∙ run_place (length words) budget entry (is_left marks) l (length words - (i + 1)) i p path r
        (rising_each (sooner_is words ones twos) (place.prepared.sorted i place.inside))
        (λ j h. (place.prepared.here i j place.inside h).0)
        (λ j h a. place.prepared.there i j place.inside h a.begun a.lasts)
        ∙ ap (λ js. foldl placing r (firsts word last js)) (candidates place wants)
        ∙ ap (foldl placing r) (tries_firsts ok word last no_word opens (λ j h e. omega (arith, words_are j (opened_entry place j h))))
        ∙ fold_same placing turning (tries ok word no_word opens) r
        (λ s j h. turn_is s j (opened_entry place j (tries_in ok word no_word opens h))))
      where
        one_less : length words - i ≡ suc (length words - (i + 1))
        one_less = omega (arith, place.inside)

    -- and so over what the code tries from its first slot on
    pub place_turns : (r : Run) {all these : Slots} {k : ℕ} → all.lo ≡ get_or tables.starts i 0
        → all.hi ≡ get_or tables.starts (i + 1) 0
        → Opened tables.slots twos marks i all these
        → Next ok words tables.slots no_word these k
        → run (length words) budget r (map (λ ws. path ++ ws) (walk l (length words - i) i p (left words ones twos marks)))
        ≡ foldl turning r (ahead ok words tables.slots k these.hi)
    place_turns r e f o n =
        place_run r ∙ ap (λ js. foldl turning r (tries ok word no_word js)) (sym (opened_list tables.starts e f o)) ∙ ap (foldl turning r) n.rest
