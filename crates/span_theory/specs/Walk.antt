-- The walk on span cards (01, "The walk on span cards"), over the entries that are left: what it reaches, an item for each placement in the
-- order of the placements, each item the words that stand then. An entry is as it is stored: its word, the first place of its span and the
-- last. The entries that are left keep the order of their indices. No budget is in it.
--   is_candidate l i p c      == the entry of the choice c may be tried at the place i, after the word p
--   by_word word last cs      == of those with equal words the one that ends first, in the order of words
--   tried l i p left         == what the walk tries at the place i, in order
--   walk l n i p left        == what it reaches from the place i on, with n entries left
--   walked l es              == what it reaches on a card of the entries es
--   builds l es              == the builds that it completes, by their words, in order
--   placements l es          == its placements up to the verdict
-- Assumes nothing.
use Rattle.std.specs.Prelude.{Bool, true, ◌&&◌, cond, ℕ, zero, suc, eqb, leb, ltb, length}
use mathlib.Core.List.{List, [], ◌∷◌, map, flat_map}
use Rattle.std.proofs.Math.Option.{Option, none, some}
use Rattle.card_entries.specs.declared.Slot.{Slot}
use Rattle.base_lists.specs.Members.{Choice, choices, keep}
use Rattle.build_sequence.specs.Arrangement.{follows}

abbrev pub word_of : Choice Slot → ℕ
word_of c = c.entry.word

abbrev pub end_of : Choice Slot → ℕ
end_of c = c.entry.two

-- no entry ends at i or earlier
abbrev pub last_past : ℕ → List Slot → Bool
last_past i [] = true
last_past i (e ∷ es) = ltb i e.two && last_past i es

-- "the candidates are unused entries whose span holds i, whose word overlaps the last word (at place 0, all overlap), and such that no
-- other unused entry ends at i or earlier"
unfoldable pub is_candidate : ℕ → ℕ → Option ℕ → Choice Slot → Bool
is_candidate l i p c = leb c.entry.one i && leb i (end_of c) && follows l p (word_of c) && last_past i c.left

module _ {A : Type 0} (word last : A → ℕ) where
  -- c before the others, in the order of words; "Of candidates with equal words only the one that ends first is tried, ties by lower entry
  -- index": the others have higher indices than c
  unfoldable pub insert : A → List A → List A
  insert c [] = c ∷ []
  insert c (d ∷ ds) =
      cond (ltb (word c) (word d)) (c ∷ d ∷ ds)
      (cond (ltb (word d) (word c)) (d ∷ insert c ds) (cond (leb (last c) (last d)) (c ∷ ds) (d ∷ ds)))

  -- "Words are tried alphabetically."
  unfoldable pub by_word : List A → List A
  unfolding insert
  by_word [] = []
  by_word (c ∷ cs) = insert c (by_word cs)

unfoldable pub tried : ℕ → ℕ → Option ℕ → List Slot → List (Choice Slot)
unfolding is_candidate by_word
tried l i p left = by_word word_of end_of (keep (is_candidate l i p) (choices left))

-- "Trying one is a placement and opens the same walk over the entries that are left"
unfoldable pub walk : ℕ → ℕ → ℕ → Option ℕ → List Slot → List (List ℕ)
unfolding tried flat_map
walk l zero i p left = []
walk l (suc n) i p left = flat_map (λ c. map (λ ws. word_of c ∷ ws) ([] ∷ walk l n (suc i) (some (word_of c)) c.left)) (tried l i p left)

unfoldable pub walked : ℕ → List Slot → List (List ℕ)
unfolding walk
walked l es = walk l (length es) 0 none es

-- a build is complete where all entries stand
unfoldable pub builds : ℕ → List Slot → List (List ℕ)
unfolding walked
builds l es = keep (λ ws. eqb (length ws) (length es)) (walked l es)

-- the placements up to the one that completes the k-th build of m words, or all
unfoldable pub up_to : ℕ → ℕ → List (List ℕ) → ℕ
up_to m k [] = 0
up_to m zero (ws ∷ reached) = 0
up_to m (suc k) (ws ∷ reached) = suc (cond (eqb (length ws) m) (up_to m k reached) (up_to m (suc k) reached))

-- "The walk reaches its verdict at the placement that completes a second build, or when it has run out."; "each placement is counted once"
unfoldable pub placements : ℕ → List Slot → ℕ
unfolding walked up_to
placements l es = up_to (length es) 2 (walked l es)
