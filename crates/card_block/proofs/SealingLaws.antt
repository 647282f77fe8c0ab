-- The laws of sealed blocks that this crate's proofs and the crates above cite: what is sealed holds and keeps its own bytes, and a block
-- that holds is what sealing makes of its own bytes. Assumes nothing.
use mathlib.Core.Path.{◌≡◌, refl, sym, ap, ◌∙◌}
use mathlib.Core.Bool.{true}
use mathlib.Core.List.{List, [], ◌∷◌, ◌++◌, append_assoc}
use Prim.Native.Nat.{ℕ, ◌+◌, ◌-◌, ◌≤◌}
use native.Mathlib.Omega.{arith}
use lib.ListN.{length, get_or, take, drop, set, replicate, length-append, length-replicate, take-append-drop, drop_of_length-le}
use lib.Seq.{take_at, drop_at, get_or_at, get_or-append-add, length-take-le, drop-append-le}
use lib.Dec.{eqb}
use borrow.Author.Tests.{eq-eqb, eqb-true}
use Rattle.base_answers.specs.Answer.{given, sound, first}
use Rattle.base_answers.proofs.Laws.{first_passed}
use Rattle.base_lists.proofs.TestLaws.{both}
use Rattle.card_block.specs.declared.check.CheckBytes.{CheckBytes}
use Rattle.card_block.specs.Bytes.{two_at, two_bytes, AreBytes}
use Rattle.base_lists.specs.Parts.{put_at}
use Rattle.card_block.specs.Check.{check_bytes, checks, check_at}
use Rattle.card_block.specs.Block.{block_bytes, index_at, index_of, block_tests}
use Rattle.card_block.specs.Sealing.{checked, sealed}
use Rattle.card_block.proofs.Laws.{block_sound}
use Rattle.card_block.proofs.ByteLaws.{length_two, two_read, two_again, drop_two}
use Rattle.base_lists.proofs.PutLaws.{put_on, put_next, put_start, put_whole, put_own}

-- what stands before the check: the own bytes, zeros, and the index
abbrev spares : List ℕ → List ℕ
spares own = replicate (index_at - length own) 0

abbrev body : List ℕ → ℕ → List ℕ
body own k = own ++ (spares own ++ two_bytes k)

abbrev check : List ℕ → List ℕ
check xs = (check_bytes xs).first ∷ (check_bytes xs).second ∷ []

module _ (own : List ℕ) (k : ℕ) (fits : length own ≤ index_at) where
  length_front : length (own ++ spares own) ≡ index_at
  length_front = omega (arith, length-append own (spares own), length-replicate {A = ℕ} (index_at - length own) 0)

  length_body : length (body own k) ≡ check_at
  length_body =
      omega (
        arith,
        length-append own (spares own ++ two_bytes k),
        length-append (spares own) (two_bytes k),
        length-replicate {A = ℕ} (index_at - length own) 0,
        length_two k,
      )

  pub length_sealed : length (sealed own k) ≡ block_bytes
  unfolding sealed checked
  length_sealed = omega (arith, length-append (body own k) (check (body own k)), length_body)

  -- the own bytes stand first
  pub sealed_own : sealed own k ≡ own ++ (spares own ++ two_bytes k ++ check (body own k))
  unfolding sealed checked
  sealed_own = append_assoc own (spares own ++ two_bytes k) (check (body own k))

  -- with the zeros after them
  sealed_front : sealed own k ≡ own ++ spares own ++ (two_bytes k ++ check (body own k))
  sealed_front =
      sealed_own
      ∙ ap (λ (xs : List ℕ). own ++ xs) (append_assoc (spares own) (two_bytes k) (check (body own k)))
      ∙ sym (append_assoc own (spares own) (two_bytes k ++ check (body own k)))

  -- up to the index there are zeros
  pub sealed_spare : drop (length own) (take index_at (sealed own k)) ≡ spares own
  sealed_spare =
      ap (λ (xs : List ℕ). drop (length own) (take index_at xs)) sealed_front
      ∙ ap (drop (length own)) (take_at (own ++ spares own) (two_bytes k ++ check (body own k)) index_at length_front)
      ∙ drop_at own (spares own) (length own) refl

  sealed_index : index_of (sealed own k) ≡ k
  unfolding index_of
  sealed_index =
      ap (λ (xs : List ℕ). two_at xs index_at) sealed_front ∙ two_read (own ++ spares own) (check (body own k)) index_at k length_front

  sealed_checks : checks (sealed own k) ≡ true
  unfolding checks sealed checked
  sealed_checks =
      let xs = body own k in
      let c = check_bytes xs in
      let start : take check_at (xs ++ check xs) ≡ xs = take_at xs (check xs) check_at length_body in
      let one : get_or (xs ++ check xs) check_at 0 ≡ c.first = get_or_at xs c.first (c.second ∷ []) 0 check_at length_body in
      let two : get_or (xs ++ check xs) (check_at + 1) 0 ≡ c.second = rw length_body at (get_or-append-add xs (check xs) 1 0) in
      simp (start, one, two, eq-eqb c.first c.first refl, eq-eqb c.second c.second refl)

  -- what is sealed as block k holds as block k
  pub sealed_holds : first (block_tests (sealed own k) k) sound ≡ given sound
  sealed_holds = block_sound (sealed own k) k sealed_checks sealed_index

-- ---- a block that holds is what sealing makes of its own bytes

module _ (b : List ℕ) (k : ℕ) (whole : length b ≡ block_bytes) (held : first (block_tests b k) sound ≡ given sound) where
  -- its index and its check are those
  held_index : index_of b ≡ k
  unfolding block_tests
  held_index = eqb-true _ _ (first_passed _ _ _ _ _ _ (first_passed _ _ _ _ _ _ held).1).0

  held_checks : checks b ≡ true
  unfolding block_tests
  held_checks = (first_passed _ _ _ _ _ _ held).0

  held_last : drop check_at b ≡ check (take check_at b)
  unfolding checks
  held_last =
      let c = check_bytes (take check_at b) in
      let h = both (eqb c.first (get_or b check_at 0)) (eqb c.second (get_or b (check_at + 1) 0)) held_checks in
      let one = eqb-true c.first (get_or b check_at 0) h.0 in
      let two = eqb-true c.second (get_or b (check_at + 1) 0) h.1 in
      let rest : drop (check_at + 2) b ≡ [] = drop_of_length-le b {i = check_at + 2} (omega arith) in
      rw (one, two) (drop_two b check_at (omega arith) ∙ ap (λ (ys : List ℕ). get_or b check_at 0 ∷ get_or b (check_at + 1) 0 ∷ ys) rest)

  module _ (bytes : AreBytes b) (own : List ℕ) (fits : length own ≤ index_at) where
    pub sealed_again : own ++ drop (length own) b ≡ b → drop (length own) (take index_at b) ≡ spares own → sealed own k ≡ b
    unfolding sealed checked index_of
    sealed_again stands zeros =
        let index : two_bytes k ++ drop check_at b ≡ drop index_at b =
        ap (λ (i : ℕ). two_bytes i ++ drop check_at b) (sym held_index) ∙ two_again b index_at bytes (omega arith) in
        let middle : spares own ++ drop index_at b ≡ drop (length own) b =
        ap (λ (xs : List ℕ). xs ++ drop index_at b) (sym zeros)
        ∙ sym (drop-append-le (length own) (take index_at b) (drop index_at b) (omega (arith, length-take-le index_at b (omega arith))))
        ∙ ap (drop (length own)) (take-append-drop index_at b) in
        let whole-body : body own k ++ drop check_at b ≡ b =
        append_assoc own (spares own ++ two_bytes k) (drop check_at b)
        ∙ ap (λ (xs : List ℕ). own ++ xs) (append_assoc (spares own) (two_bytes k) (drop check_at b))
        ∙ ap (λ (xs : List ℕ). own ++ (spares own ++ xs)) index
        ∙ ap (λ (xs : List ℕ). own ++ xs) middle
        ∙ stands in
        let front : take check_at b ≡ body own k =
        ap (take check_at) (sym whole-body) ∙ take_at (body own k) (drop check_at b) check_at (length_body own k fits) in
        ap (λ (xs : List ℕ). body own k ++ check xs) (sym front) ∙ ap (λ (xs : List ℕ). body own k ++ xs) (sym held_last) ∙ whole-body

-- ---- as the code makes it: the own bytes, zeros, the index, the check

module _ (l : List ℕ) (n k : ℕ) (whole : length l ≡ block_bytes) (fits : n ≤ index_at) where
  module _ {l₁ l₂ : List ℕ} (cleared : l₁ ≡ put_at (replicate (index_at - n) 0) n l) (indexed : l₂ ≡ put_at (two_bytes k) index_at l₁) where
    length_own : length (take n l) ≡ n
    length_own = length-take-le n l (omega arith)

    -- up to the check
    seal_body : l₂ ≡ put_at (body (take n l) k) 0 l
    seal_body =
        let own = take n l in
        let zeros : List ℕ = replicate (index_at - n) 0 in
        let to-index : l₁ ≡ put_at (own ++ zeros) 0 l =
        cleared ∙ put_on l 0 own (sym (put_own l n (omega arith))) (omega (arith, length_own)) zeros
        (omega (arith, length-replicate {A = ℕ} (index_at - n) 0)) in
        let ends : length (own ++ zeros) ≡ index_at =
        omega (arith, length-append own zeros, length_own, length-replicate {A = ℕ} (index_at - n) 0) in
        indexed
        ∙ put_on l 0 (own ++ zeros) to-index (omega (arith, ends)) (two_bytes k) (omega (arith, length_two k))
        ∙ ap (λ (xs : List ℕ). put_at xs 0 l) (append_assoc own zeros (two_bytes k))
        ∙ rw length_own

    length_made : length (body (take n l) k) ≡ check_at
    length_made = length_body (take n l) k (omega (arith, length_own))

    -- with the check
    pub seal_made : (c : CheckBytes) → c ≡ check_bytes (take check_at l₂)
        → set (set l₂ check_at c.first) (check_at + 1) c.second ≡ sealed (take n l) k
    unfolding sealed checked
    seal_made c e =
        let xs = body (take n l) k in
        let start : l₂ ≡ xs ++ drop check_at l = seal_body ∙ put_start l xs ∙ ap (λ (i : ℕ). xs ++ drop i l) length_made in
        let front : take check_at l₂ ≡ xs = ap (take check_at) start ∙ take_at xs (drop check_at l) check_at length_made in
        let made : c ≡ check_bytes xs = e ∙ ap check_bytes front in
        let one : set l₂ check_at c.first ≡ put_at (xs ++ (c.first ∷ [])) 0 l =
        put_next l 0 xs seal_body (omega (arith, length_made)) c.first (omega arith) in
        let two : set (set l₂ check_at c.first) (check_at + 1) c.second ≡ put_at (xs ++ (c.first ∷ []) ++ (c.second ∷ [])) 0 l =
        put_next l 0 (xs ++ (c.first ∷ [])) one (omega (arith, length-append xs (c.first ∷ []), length_made)) c.second (omega arith) in
        two
        ∙ ap (λ (ys : List ℕ). put_at ys 0 l) (append_assoc xs (c.first ∷ []) (c.second ∷ []))
        ∙ put_whole l (xs ++ (c.first ∷ c.second ∷ [])) (omega (arith, length-append xs (c.first ∷ c.second ∷ []), length_made))
        ∙ ap (λ (d : CheckBytes). xs ++ (d.first ∷ d.second ∷ [])) made
