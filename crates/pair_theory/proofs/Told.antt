-- What the method finds is the verdict on the card: the words of the first build, and how many there are. Assumes nothing.
use mathlib.Core.Path.{◌≡◌, sym, ap, ◌∙◌}
use mathlib.Core.Logic.{◌⊎◌, inl, inr, ⊎_elim}
use mathlib.Core.List.{List}
use Prim.Native.Nat.{ℕ, zero, suc, ◌^◌, ◌<◌}
use native.Mathlib.Omega.{arith}
use lib.ListN.{length, get_or}
use lib.Seq.{ext_get_or}
use Rattle.card_entries.specs.declared.Entry.{Entry}
use Rattle.base_lists.specs.Members.{In}
use Rattle.build_sequence.specs.Arrangement.{Arrangement, words}
use Rattle.build_sequence.specs.Build.{spell, Build}
use Rattle.build_sequence.specs.Worded.{Worded}
use Rattle.build_sequence.specs.Verdict.{Before, no_build, Tells}
use Rattle.build_sequence.specs.Many.{Many}
use Rattle.build_sequence.proofs.OrderLaws.{first_differs}
use Rattle.build_sequence.proofs.SpellingLaws.{spell_before}
use Rattle.build_sequence.proofs.BuildLaws.{words_length, arrangement_chained, worded_chained, worded_length, worded_one, worded_build}
use Rattle.build_sequence.proofs.ManyLaws.{many_map, many_only, many_other, two_or_more}
use Rattle.pair_theory.specs.Arranged.{Pairs, Arranged, Reads, ReadsLater}
use Rattle.pair_theory.specs.Chosen.{Read, FirstFound}
use Rattle.pair_theory.specs.Described.{Described, verdict_by}
use Rattle.pair_theory.proofs.Extends.{filled}
use Rattle.base_lists.proofs.Reindexed.{in_index}
use Rattle.pair_theory.proofs.Ordered.{blank, Placed, arrangement_placed, arranged_ordered}

module _ {l : ℕ} {es : List Entry} {c : Pairs} (d : Described l es c) where
  -- the words of the entries have l letters
  entry_fits : (e : Entry) → In e es → e.word < 4 ^ l
  entry_fits e h =
      let u = in_index blank h in
      let p : u.0 < c.m = omega (arith, u.1, d.many) in
      rw u.2 (rw (d.word blank u.0 p) (d.fits u.0 p))

  -- ---- an arrangement with the words vs, and the words ws

  module _ (ws vs : List ℕ) (n : length ws ≡ c.m) (k : length vs ≡ c.m) {σ : ℕ → ℕ} (p : Placed c σ vs) where
    -- where it reads as ws below t, it has the words of ws there
    same_below : (t : ℕ) → Reads c σ t (λ i. get_or ws i 0) → (i : ℕ) → i < t → i < c.m → get_or ws i 0 ≡ get_or vs i 0
    same_below t r i h g =
        let f = filled c σ d.inside p.arranged i g in
        let e : get_or ws (σ f.0) 0 ≡ get_or vs (σ f.0) 0 =
        sym (r f.0 f.1 (omega (arith, f.2))) ∙ sym (p.has f.0 f.1) in
        rw f.2 at e

    -- where it reads as ws everywhere, its words are ws
    reads_same : Reads c σ c.m (λ i. get_or ws i 0) → ws ≡ vs
    reads_same r = ext_get_or 0 ws vs (n ∙ sym k) (λ i h. same_below c.m r i (omega arith) (omega arith))

    -- where it is later, its words come after ws
    later_before : ReadsLater c σ c.m (λ i. get_or ws i 0) → Before ws vs
    later_before x =
        let below = x.below in
        let f = filled c σ d.inside p.arranged x.at below in
        let there : get_or vs x.at 0 ≡ c.word f.0 = rw f.2 at (p.has f.0 f.1) in
        first_differs ws vs x.at (n ∙ sym k) (omega arith) (λ i h. same_below x.at x.same i h (omega arith))
        (rw there (x.more f.0 f.1 f.2))

  -- ---- builds

  -- an arrangement has as many words as there are entries
  ordered_length : {order : List Entry} → Arrangement l es order → length (words order) ≡ c.m
  ordered_length a = words_length a ∙ d.many

  module _ {ws : List ℕ} (w : Worded l es ws) {order : List Entry} (a : Arrangement l es order) {σ : ℕ → ℕ}
      (p : Placed c σ (words order)) where
    -- an arrangement that reads as ws spells what ws does
    reads_spelled : Reads c σ c.m (λ i. get_or ws i 0) → spell l (words order) ≡ spell l ws
    reads_spelled r = ap (spell l) (sym (reads_same ws (words order) (worded_length w ∙ d.many) (ordered_length a) p r))

    -- a later one spells a sequence that comes after it
    later_spelled : ReadsLater c σ c.m (λ i. get_or ws i 0) → Before (spell l ws) (spell l (words order))
    later_spelled x =
        spell_before (worded_chained entry_fits w) (arrangement_chained entry_fits a) (worded_length w ∙ sym (words_length a))
        (later_before ws (words order) (worded_length w ∙ d.many) (ordered_length a) p x)

-- ---- how many

module _ {l : ℕ} {es : List Entry} {c : Pairs} (d : Described l es c) where
  -- the words of an arrangement by place are those of one by order, and the other way round
  read_worded : {ws : List ℕ} → Read c ws → Worded l es ws
  read_worded {ws} x =
      let o = arranged_ordered d x.σ x.arranged in
      record {
        order = o.order;
        arrangement = o.arrangement;
        in_order = reads_same d ws (words o.order) x.many (ordered_length d o.arrangement) o.placed x.has;
      }

  build_read : {s : List ℕ} → Build l es s → (ws : List ℕ) × Read c ws × (s ≡ spell l ws)
  build_read b =
      let p = arrangement_placed d b.arrangement in (
        words b.order,
        record {
          σ = p.0;
          arranged = p.1.arranged;
          many = ordered_length d b.arrangement;
          has = λ e h g. sym (p.1.has e h);
        },
        b.spelled,
      )

  -- as many builds as there are lists of words
  many_builds : {n : ℕ} → Many (Read c) n → Many (Build l es) n
  many_builds =
      many_map (spell l) (λ ws x. worded_build (read_worded x))
      (λ ws vs x y. worded_one (entry_fits d) (read_worded x) (read_worded y)) (λ s b. build_read b)

-- the words that were found are those of an arrangement
pub found_worded : {l : ℕ} {es : List Entry} {c : Pairs} → Described l es c → (ws : List ℕ) (k : ℕ) → length ws ≡ c.m
    → FirstFound c (λ t. get_or ws t 0) k
    → Worded l es ws
found_worded d ws k n f = read_worded d (record { σ = f.σ; arranged = f.arranged; many = n; has = f.reads })

-- two to the number of free choices
pub found_many : {l : ℕ} {es : List Entry} {c : Pairs} → Described l es c → (ws : List ℕ) (k : ℕ) → FirstFound c (λ t. get_or ws t 0) k
    → Many (Build l es) (2 ^ k)
found_many d ws k f = many_builds d f.many

-- the verdict: sole where there was no choice, or else several, with what the words spell
pub found_tells : {l : ℕ} {es : List Entry} {c : Pairs} → Described l es c → (ws : List ℕ) (k : ℕ) → length ws ≡ c.m
    → FirstFound c (λ t. get_or ws t 0) k
    → Tells (Build l es) (verdict_by k (spell l ws))
found_tells {l} {es} d ws zero n f =
    let b = worded_build (found_worded d ws zero n f) in (b, many_only (found_many d ws zero f) b)
found_tells {l} {es} {c} d ws (suc k) n f = (
  worded_build w,
  many_other (two_or_more k) (found_many d ws (suc k) f) (spell l ws),
  first_of,
)
  where
    w : Worded l es ws
    w = found_worded d ws (suc k) n f

    first_of : (t : List ℕ) → Build l es t → (t ≡ spell l ws) ⊎ Before (spell l ws) t
    first_of t b =
        let p = arrangement_placed d b.arrangement in
        ⊎_elim (λ r. inl (b.spelled ∙ reads_spelled d w b.arrangement p.1 r))
        (λ x. inr (rw b.spelled (later_spelled d w b.arrangement p.1 x)))
        (f.first p.0 p.1.arranged)

-- where nothing can be arranged there is no build
pub none_tells : {l : ℕ} {es : List Entry} {c : Pairs} → Described l es c → ((σ : ℕ → ℕ) → Arranged c σ → ⊥) → Tells (Build l es) no_build
none_tells d h t b = let p = arrangement_placed d b.arrangement in h p.0 p.1.arranged
