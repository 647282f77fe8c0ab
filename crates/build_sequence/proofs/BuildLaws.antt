-- Laws of arrangements and builds: the words of entries have l letters, an arrangement has all the entries, its words are a chain and those
-- that it spells, a build has m+l−1 letters, and the l letters from each place on are those of a word. Assumes nothing.
use mathlib.Core.Path.{◌≡◌, sym, ap, ◌∙◌}
use mathlib.Core.List.{List, map}
use Prim.Native.Nat.{ℕ, ◌+◌, ◌^◌, ◌<◌}
use native.Mathlib.Omega.{arith}
use lib.ListN.{length, get_or, take, drop, length-map}
use Rattle.card_entries.specs.declared.Slot.{Slot}
use Rattle.card_entries.specs.declared.Entry.{Entry}
use Rattle.card_entries.specs.Entry.{entry_of}
use Rattle.card_entries.proofs.Allowed.{entry_word}
use Rattle.base_lists.specs.Members.{In}
use Rattle.build_sequence.specs.Arrangement.{Arrangement, words}
use Rattle.build_sequence.specs.Build.{letters_of, spell, Build}
use Rattle.build_sequence.specs.Worded.{Worded}
use Rattle.base_lists.proofs.ListLaws.{in_map}
use Rattle.base_lists.proofs.ReorderedLaws.{reordered_length, reordered_in}
use Rattle.build_sequence.proofs.SpellingLaws.{Chained, standing_chain, spell_one, spell_length, spell_window}

-- the words of the entries that slots stand for have l letters where those of the slots do
pub entries_fit : (l kind : ℕ) (es : List Slot) → ((s : Slot) → In s es → s.word < 4 ^ l) → (e : Entry) → In e (map (entry_of kind) es)
    → e.word < 4 ^ l
entries_fit l kind es fits e h =
    let u = in_map (entry_of kind) es h in rw u.2 (rw (entry_word kind u.0) (fits u.0 u.1))

-- ---- arrangements

pub words_length : {l : ℕ} {es order : List Entry} → Arrangement l es order → length (words order) ≡ length es
words_length {order} a = omega (arith, length-map order (λ e. e.word), reordered_length a.each)

-- the words of an arrangement, of entries whose words have l letters
pub arrangement_chained : {l : ℕ} {es order : List Entry} → ((e : Entry) → In e es → e.word < 4 ^ l) → Arrangement l es order
    → Chained l (words order)
arrangement_chained {l} {es} {order} fits a = record { chain = standing_chain a.standing; fits = fit }
  where
    fit : (w : ℕ) → In w (words order) → w < 4 ^ l
    fit w h = let u = in_map (λ e. e.word) order h in rw u.2 (fits u.0 (reordered_in a.each u.1))

-- the words of an arrangement are a chain
pub worded_chained : {l : ℕ} {es : List Entry} → ((e : Entry) → In e es → e.word < 4 ^ l) → {ws : List ℕ} → Worded l es ws → Chained l ws
worded_chained fits w = rw w.in_order (arrangement_chained fits w.arrangement)

-- as many as there are entries
pub worded_length : {l : ℕ} {es : List Entry} {ws : List ℕ} → Worded l es ws → length ws ≡ length es
worded_length w = ap length w.in_order ∙ words_length w.arrangement

-- the words of an arrangement are those that it spells
pub worded_one : {l : ℕ} {es : List Entry} → ((e : Entry) → In e es → e.word < 4 ^ l) → {ws vs : List ℕ} → Worded l es ws → Worded l es vs
    → spell l ws ≡ spell l vs
    → ws ≡ vs
worded_one fits w v = spell_one (worded_chained fits w) (worded_chained fits v) (worded_length w ∙ sym (worded_length v))

-- ---- builds

-- what the words of an arrangement spell is a build
pub worded_build : {l : ℕ} {es : List Entry} {ws : List ℕ} → Worded l es ws → Build l es (spell l ws)
worded_build {l} w = record { order = w.order; arrangement = w.arrangement; spelled = ap (spell l) w.in_order }

module _ {l : ℕ} {es : List Entry} {s : List ℕ} (b : Build l es s) where
  -- "A build has m+l−1 letters"
  pub build_length : 0 < length es → length s + 1 ≡ length es + l
  build_length h =
      let n = words_length b.arrangement in
      rw b.spelled (omega (arith, n, spell_length l (words b.order) (omega (arith, n))))

  -- its l letters from the place j on are those of the word of the entry at j
  pub build_window : 0 < l → (j : ℕ) → j < length es → take l (drop j s) ≡ letters_of l (get_or (words b.order) j 0)
  build_window pos j h =
      rw b.spelled (spell_window pos (standing_chain b.arrangement.standing) j (omega (arith, words_length b.arrangement)))
