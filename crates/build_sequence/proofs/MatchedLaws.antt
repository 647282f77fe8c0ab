-- A build is what the client says it is: a sequence whose words, in order, can be matched one to one with the entries, each at an allowed
-- place. Both ways, for entries whose words have l letters. Assumes nothing.
use mathlib.Core.Path.{◌≡◌, refl, sym, ap, ◌∙◌}
use mathlib.Core.Bool.{true}
use mathlib.Core.List.{List, [], ◌∷◌, ◌++◌, map, append-nil, append_assoc}
use mathlib.Core.Option.{Option}
use Prim.Native.Nat.{ℕ, zero, suc, ◌+◌, ◌-◌, ◌^◌, ◌/◌, ◌%◌, ◌<◌}
use native.Mathlib.Nat.{zero-add}
use native.Mathlib.Omega.{arith}
use lib.ListN.{length, get_or, take, drop, take-append-drop}
use lib.Seq.{take-take, take_all, drop_at}
use Rattle.card_entries.specs.declared.Entry.{Entry}
use Rattle.card_entries.specs.Entry.{allows}
use Rattle.base_lists.specs.Members.{In, first, later, Reordered}
use Rattle.build_sequence.specs.Arrangement.{overlaps, follows, Standing, nobody, stands, words}
use Rattle.build_sequence.specs.Build.{letters_of, spell, Build}
use Rattle.base_lists.proofs.ReorderedLaws.{reordered_length, reordered_in}
use Rattle.build_sequence.proofs.LetterLaws.{length_letters, letters_overlap}
use Rattle.build_sequence.proofs.SpellingLaws.{spell_is}
use Rattle.build_sequence.proofs.BuildLaws.{build_length, build_window}
use Rattle.base_lists.specs.At.{At, here, there}
use Rattle.build_sequence.specs.Matches.{Matches}

-- ---- a build is matched

at_below : {e : Entry} {es : List Entry} {j : ℕ} → At j e es → j < length es
at_below here = omega arith
at_below (there a) = omega (arith, at_below a)

at_word : {e : Entry} {es : List Entry} {j : ℕ} → At j e es → get_or (words es) j 0 ≡ e.word
at_word here = refl
at_word (there a) = at_word a

at_allowed : {l i j : ℕ} {p : Option ℕ} {e : Entry} {es : List Entry} → Standing l i p es → At j e es → allows e.places (i + j) ≡ true
at_allowed {i} {e = e} (stands a f more) here = let same : i + 0 ≡ i = omega arith in rw same a
at_allowed {i} {e = e} (stands a f more) (there {i = k} h) =
    let same : i + suc k ≡ suc i + k = omega arith in rw same (at_allowed more h)
at_allowed {l = l} {j = j} {e = e} (nobody {i = i} {p = p}) h = elim h [ ]

pub build_matches : {l : ℕ} {es : List Entry} {s : List ℕ} → 0 < l → 0 < length es → Build l es s → Matches l es s
build_matches {l} {es} {s} pos entry b = record {
  order = b.order;
  one_to_one = b.arrangement.each;
  letters = build_length b entry;
  matched = λ j e a.
      let below : j < length es = omega (arith, at_below a, reordered_length b.arrangement.each) in
      let word : letters_of l (get_or (words b.order) j 0) ≡ letters_of l e.word = ap (letters_of l) (at_word a) in
      (build_window b pos j below ∙ word, rw zero-add at (at_allowed b.arrangement.standing a));
}

-- ---- what is matched is a build

-- the entries es are read from the sequence s, the first of them at the place i
record Reads (k i : ℕ) (es : List Entry) (s : List ℕ) : Type 0 where
  read : (j : ℕ) (e : Entry) → At j e es → (take (suc k) (drop j s) ≡ letters_of (suc k) e.word) × (allows e.places (i + j) ≡ true)

reads_next : {k i d : ℕ} {x : Entry} {es : List Entry} {s : List ℕ} → Reads k i (x ∷ es) (d ∷ s) → Reads k (suc i) es s
reads_next {i} m = record {
  read = λ j e a.
      let h = m.read (suc j) e (there a) in
      let same : i + suc j ≡ suc i + j = omega arith in
      (h.0, rw same at h.1);
}

reads_first : {k i : ℕ} {x : Entry} {es : List Entry} {s : List ℕ} → Reads k i (x ∷ es) s
    → (take (suc k) s ≡ letters_of (suc k) x.word) × (allows x.places i ≡ true)
reads_first {i} {x} m = let h = m.read 0 x here in let same : i + 0 ≡ i = omega arith in (h.0, rw same at h.1)

module _ (k : ℕ) where
  -- two words that are read one place apart overlap
  reads_overlap : (d w v : ℕ) (s : List ℕ) → v < 4 ^ suc k → take (suc k) (d ∷ s) ≡ letters_of (suc k) w
      → take (suc k) s ≡ letters_of (suc k) v
      → overlaps (suc k) w v ≡ true
  reads_overlap d w v s fits e f =
      let less : suc k - 1 ≡ k = omega arith in
      letters_overlap (suc k) w v (omega arith) fits
      (ap (drop 1) (sym e) ∙ rw less (sym (take-take k (suc k) s (omega arith)) ∙ ap (take k) f))

  -- a sequence by its first word and the last letters of the others
  spell_two : (d w v : ℕ) (vs s : List ℕ) → take (suc k) (d ∷ s) ≡ letters_of (suc k) w → s ≡ spell (suc k) (v ∷ vs)
      → d ∷ s ≡ spell (suc k) (w ∷ v ∷ vs)
  spell_two d w v vs s e f =
      let lasts = map (λ x. x % 4) vs in
      let rest : drop k s ≡ v % 4 ∷ lasts =
      ap (drop k) (f ∙ spell_is (suc k) v vs ∙ append_assoc (letters_of k (v / 4)) (v % 4 ∷ []) lasts)
      ∙ drop_at (letters_of k (v / 4)) (v % 4 ∷ lasts) k (length_letters k (v / 4)) in
      sym (take-append-drop (suc k) (d ∷ s))
      ∙ ap (λ (x : List ℕ). x ++ drop k s) e
      ∙ ap (λ (x : List ℕ). letters_of (suc k) w ++ x) rest
      ∙ sym (spell_is (suc k) w (v ∷ vs))

  reads_stands : (es : List Entry) {i : ℕ} {p : Option ℕ} (s : List ℕ) (x : Entry) → ((e : Entry) → In e (x ∷ es) → e.word < 4 ^ suc k)
      → length s ≡ length es + suc k
      → Reads k i (x ∷ es) s
      → follows (suc k) p x.word ≡ true
      → Standing (suc k) i p (x ∷ es) × (s ≡ spell (suc k) (words (x ∷ es)))
  reads_stands [] s x fits n m f =
      let one = reads_first m in (
        stands one.1 f nobody,
        sym (take_all (suc k) s (omega (arith, n))) ∙ one.0 ∙ sym (append-nil (letters_of (suc k) x.word))
            ∙ sym (spell_is (suc k) x.word []),
      )
  reads_stands (y ∷ es) [] x fits n m f = absurd (omega (arith, n))
  reads_stands (y ∷ es) (d ∷ s) x fits n m f =
      let one = reads_first m in
      let over = reads_overlap d x.word y.word s (fits y (later first)) one.0 (reads_first (reads_next m)).0 in
      let others = reads_stands es s y (λ e h. fits e (later h)) (omega (arith, n)) (reads_next m) over in
      (stands one.1 f others.0, spell_two d x.word y.word (words es) s one.0 others.1)

pub matches_build : {l : ℕ} {es : List Entry} {s : List ℕ} → 0 < l → 0 < length es → ((e : Entry) → In e es → e.word < 4 ^ l)
    → Matches l es s
    → Build l es s
matches_build {l = zero} pos entry fits m = absurd (omega arith)
matches_build {l = suc k} {es} {s} pos entry fits m =
    go m.order m.one_to_one (record { read = λ j e a. let h = m.matched j e a in (h.0, rw zero-add h.1) })
  where
    go : (order : List Entry) → Reordered es order → Reads k 0 order s → Build (suc k) es s
    go [] r reads = absurd (omega (arith, entry, reordered_length r))
    go (x ∷ order) r reads =
        let size : length s ≡ length order + suc k = omega (arith, m.letters, reordered_length r) in
        let u = reads_stands k order s x (λ e h. fits e (reordered_in r h)) size reads refl in
        record { order = x ∷ order; arrangement = record { each = r; standing = u.0 }; spelled = u.1 }
