-- Laws of the slots of a place: what is due, what is opened, and what is tried from a slot on. Assumes nothing.
use mathlib.Core.Path.{◌≡◌, refl, sym, ap, ◌∙◌}
use mathlib.Core.Bool.{Bool, true, false}
use Rattle.std.specs.Prelude.{Option, Some, None, IfSome, is_some, unwrap_or}
use mathlib.Core.List.{List, [], ◌∷◌, ◌++◌}
use Prim.Native.Nat.{ℕ, ◌+◌, ◌≤◌, ◌<◌}
use native.Mathlib.Omega.{arith}
use lib.ListN.{length, get_or}
use borrow.Author.Tests.{lt-ltb, le-ltb}
use Rattle.base_lists.proofs.TestLaws.{both}
use Rattle.base_lists.specs.Members.{keep}
use Rattle.span_tables.specs.Prepared.{Prepared, list_at}
use Rattle.base_lists.specs.Parts.{part}
use Rattle.span_walk.specs.declared.Slots.{Slots}
use Rattle.span_walk.specs.Steps.{can_try, ahead, between, SlotsBelow, Opened, Next}
use Rattle.span_steps.specs.Steps.{able, is_due, opened, tries}
use Rattle.span_steps.proofs.StepLaws.{part_cons, part_none, in_part, list_is}
use Rattle.span_steps.proofs.TriedLaws.{tries_none, tries_skip, tries_take}
use Rattle.span_steps.proofs.PlaceLaws.{list_rises, list_ends}

part_one : (xs : List ℕ) (k : ℕ) → k < length xs → part xs k (k + 1) ≡ get_or xs k 0 ∷ []
part_one xs k h =
    part_cons xs k (k + 1) (omega arith) (omega arith)
    ∙ ap (λ (l : List ℕ). get_or xs k 0 ∷ l) (part_none xs (k + 1) (k + 1) (omega arith) (omega arith))

-- ---- the next that is tried

pub ahead_at_lem : (ok : ℕ → Bool) (words slots : List ℕ) (k hi : ℕ) → k < hi
    → ahead ok words slots k hi ≡ get_or slots k 0 ∷ tries ok (λ j. get_or words j 0) (get_or words (get_or slots k 0) 0) (part slots (k + 1) hi)
unfolding ahead
ahead_at_lem ok words slots k hi h = rw (lt-ltb k hi h)

pub ahead_none : (ok : ℕ → Bool) (words slots : List ℕ) (k hi : ℕ) → hi ≤ k → ahead ok words slots k hi ≡ []
unfolding ahead
ahead_none ok words slots k hi h = rw (le-ltb k hi h)

-- where there is no slot, the end stands for it
pub no_slot : (hi : ℕ) (slot : Option ℕ) → is_some slot ≡ false → hi ≤ unwrap_or slot hi
no_slot hi None h = omega arith
no_slot hi (Some k) h = absurd (cc)

pub not_some : {slot : Option ℕ} → ((k : ℕ) → slot ≡ Some k → ⊥) → is_some slot ≡ false
not_some {slot = None} h = refl
not_some {slot = Some k} h = absurd (h k refl)

module _ (slots words marks : List ℕ) (i want w : ℕ) where
  abbrev tried : List ℕ → List ℕ
  tried = tries (able words marks i want) (λ j. get_or words j 0) w

  tried_skip : (j : ℕ) (js : List ℕ) → can_try words marks i want w j ≡ false → tried (j ∷ js) ≡ tried js
  unfolding can_try
  tried_skip j js h = tries_skip (able words marks i want) (λ k. get_or words k 0) w j js h

  tried_take : (j : ℕ) (js : List ℕ) → can_try words marks i want w j ≡ true
      → tried (j ∷ js) ≡ j ∷ tries (able words marks i want) (λ k. get_or words k 0) (get_or words j 0) js
  unfolding can_try
  tried_take j js h = tries_take (able words marks i want) (λ k. get_or words k 0) w j js h

  can_try_able : (j : ℕ) → can_try words marks i want w j ≡ true → able words marks i want j ≡ true
  unfolding can_try
  can_try_able j h = (both _ _ h).0

  -- the loop: nothing is tried from `from` up to k
  pub record Skipped (from hi k : ℕ) : Type 0 where
    pub rest : tried (part slots from hi) ≡ tried (part slots k hi)

  module _ {from hi k : ℕ} (s : Skipped from hi k) (there : hi ≤ length slots) where
    pub skipped_more : k < hi → can_try words marks i want w (get_or slots k 0) ≡ false → Skipped from hi (k + 1)
    skipped_more h isnt = record {
      rest = s.rest ∙ ap tried (part_cons slots k hi h there) ∙ tried_skip (get_or slots k 0) (part slots (k + 1) hi) isnt;
    }

    pub skipped_found : from ≤ k → k < hi → can_try words marks i want w (get_or slots k 0) ≡ true
        → Next (able words marks i want) words slots w (between from hi) k
    skipped_found on h is = record {
      on = on;
      within = omega arith;
      able_there = λ g. can_try_able (get_or slots k 0) is;
      rest = s.rest ∙ ap tried (part_cons slots k hi h there) ∙ tried_take (get_or slots k 0) (part slots (k + 1) hi) is
          ∙ sym (ahead_at_lem (able words marks i want) words slots k hi h);
    }

    pub skipped_all : from ≤ hi → hi ≤ k → Next (able words marks i want) words slots w (between from hi) hi
    skipped_all on h = record {
      on = on;
      within = omega arith;
      able_there = λ g. absurd (omega arith);
      rest = s.rest ∙ ap tried (part_none slots k hi h there) ∙ tries_none (able words marks i want) (λ j. get_or words j 0) w
          ∙ sym (ahead_none (able words marks i want) words slots hi hi (omega arith));
    }

-- ---- what is due

module _ (slots twos marks : List ℕ) (i lo hi : ℕ) where
  abbrev dues : List ℕ → List ℕ
  dues = keep (is_due twos marks i)

  -- the one that was found before
  abbrev had : Option ℕ → List ℕ
  had (Some k) = get_or slots k 0 ∷ []
  had None = []

  keep_due : (j : ℕ) (js : List ℕ) → is_due twos marks i j ≡ true → dues (j ∷ js) ≡ j ∷ dues js
  keep_due j js h = rw h

  keep_not : (j : ℕ) (js : List ℕ) → is_due twos marks i j ≡ false → dues (j ∷ js) ≡ dues js
  keep_not j js h = rw h

  -- the loop: of the slots before k at most one is due, `the`
  pub record Seen (the : Option ℕ) (k : ℕ) : Type 0 where
    pub from : IfSome the (λ x. (lo ≤ x) × (x < hi))
    pub found : dues (part slots lo hi) ≡ had the ++ dues (part slots k hi)

  module _ (there : hi ≤ length slots) {the : Option ℕ} {k : ℕ} (s : Seen the k) where
    module _ (h : k < hi) where
      pub seen_not : is_due twos marks i (get_or slots k 0) ≡ false → Seen the (k + 1)
      seen_not isnt = record {
        from = s.from;
        found = s.found ∙ ap (λ (l : List ℕ). had the ++ dues l) (part_cons slots k hi h there)
            ∙ ap (λ (l : List ℕ). had the ++ l) (keep_not (get_or slots k 0) (part slots (k + 1) hi) isnt);
      }

      here_due : is_due twos marks i (get_or slots k 0) ≡ true
          → dues (part slots lo hi) ≡ had the ++ (get_or slots k 0 ∷ dues (part slots (k + 1) hi))
      here_due is =
          s.found ∙ ap (λ (l : List ℕ). had the ++ dues l) (part_cons slots k hi h there)
          ∙ ap (λ (l : List ℕ). had the ++ l) (keep_due (get_or slots k 0) (part slots (k + 1) hi) is)

      pub seen_first : lo ≤ k → the ≡ None → is_due twos marks i (get_or slots k 0) ≡ true → Seen (Some k) (k + 1)
      seen_first on none is = record { from = (on, h); found = rw none at (here_due is) }

      -- a second one: nothing may be tried
      pub seen_second : {x : ℕ} → lo ≤ hi → the ≡ Some x → is_due twos marks i (get_or slots k 0) ≡ true
          → Opened slots twos marks i (between lo hi) (between hi hi)
      seen_second in_order some is = record {
        from = omega arith;
        in_order = omega arith;
        to = omega arith;
        open_part = part_none slots hi hi (omega arith) there
            ∙ sym (ap (λ (l : List ℕ). opened l (part slots lo hi)) (rw some at (here_due is)));
      }

    module _ (h : hi ≤ k) where
      all_seen : dues (part slots lo hi) ≡ had the ++ []
      all_seen = s.found ∙ ap (λ (l : List ℕ). had the ++ dues l) (part_none slots k hi h there)

      -- none is due
      pub seen_all : lo ≤ hi → the ≡ None → Opened slots twos marks i (between lo hi) (between lo hi)
      seen_all in_order none = record {
        from = omega arith;
        in_order = in_order;
        to = omega arith;
        open_part = sym (ap (λ (l : List ℕ). opened l (part slots lo hi)) (rw none at all_seen));
      }

-- what is opened of it
pub opened_list : {slots twos marks : List ℕ} {i : ℕ} {all these : Slots} (starts : List ℕ) → all.lo ≡ get_or starts i 0
    → all.hi ≡ get_or starts (i + 1) 0
    → Opened slots twos marks i all these
    → part slots these.lo these.hi ≡ opened (keep (is_due twos marks i) (list_at starts slots i)) (list_at starts slots i)
opened_list {slots} {twos} {marks} {i} starts e f o =
    o.open_part ∙ ap (λ (t : List ℕ). opened (keep (is_due twos marks i) t) t) (list_is slots starts i e f)

pub opened_below : {slots twos marks : List ℕ} {i m : ℕ} {all these : Slots} → SlotsBelow slots all.lo all.hi m
    → Opened slots twos marks i all these
    → SlotsBelow slots these.lo these.hi m
opened_below l o = record {
  in_order = o.in_order;
  ends = omega (arith, l.ends, o.to);
  below = λ k from to. l.below k (omega (arith, o.from)) (omega (arith, o.to));
}

-- the slots of a place have entries of the card
module _ {words ones twos starts slots : List ℕ} {i lo hi : ℕ} (prepared : Prepared words ones twos starts slots) (inside : i < length words)
    (lo_is : lo ≡ get_or starts i 0)
    (hi-is : hi ≡ get_or starts (i + 1) 0) where
  pub slots_below : SlotsBelow slots lo hi (length words)
  slots_below = record {
    in_order = list_rises prepared inside lo_is hi-is;
    ends = there;
    below = λ x from to. (prepared.here i (get_or slots x 0) inside (rw table_is at (in_part slots lo hi x from to there))).0;
  }
    where
      there : hi ≤ length slots
      there = list_ends prepared inside lo_is hi-is

      table_is : part slots lo hi ≡ list_at starts slots i
      table_is = list_is slots starts i lo_is hi-is
