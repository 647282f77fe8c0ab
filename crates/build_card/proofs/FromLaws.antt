-- Laws of building from lists that hold: what the method finds is right for the card's kind, what is spelled is the answer, and the part of
-- the output that it stands in. Assumes nothing.
use mathlib.Core.Path.{◌≡◌, refl, sym, ap, ◌∙◌}
use mathlib.Core.List.{List, [], ◌++◌, map, append-nil}
use Prim.Native.Nat.{ℕ, ◌+◌, ◌≤◌}
use native.Mathlib.Omega.{arith}
use lib.ListN.{length, take, drop, drop_of_length-le, length-take, length-map, take-append-drop}
use lib.Seq.{take_at}
use Rattle.base_answers.specs.Answer.{given}
use Rattle.card_entries.specs.declared.Format.{Format}
use Rattle.card_entries.specs.declared.Slot.{Slot}
use Rattle.card_entries.specs.Fault.{pair, span}
use Rattle.card_entries.proofs.HoldLaws.{hold_kind, lists_of_kind}
use Rattle.base_letters.specs.Letters.{letter_of}
use Rattle.build_sequence.specs.Build.{spell}
use Rattle.build_sequence.specs.Verdict.{sole, several, no_build, Outcome, settled, unsettled}
use Rattle.build_sequence.proofs.SpellingLaws.{spell_length}
use Rattle.build_spelling.specs.Spelling.{Spells}
use Rattle.build_method.specs.declared.MethodAnswer.{MethodAnswer}
use Rattle.build_method.specs.declared.MethodAnswer.TheVariants.{Sole, Several, None, Unsettled}
use Rattle.span_walk.specs.Walked.{Walks}
use Rattle.build_method.specs.Method.{says_method, Right}
use Rattle.pair_theory.specs.Settling as pairs
use Rattle.build_card.specs.declared.BuildAnswer.TheVariants as is
use Rattle.build_card.specs.Building.{on_pairs, on_spans, answer_of, letters_after}
use Rattle.build_card.specs.From.{Found, Lettered}

-- ---- the method of the kind

module _ (f : Format) {es : List Slot} {r : MethodAnswer} {ws : List ℕ} where
  pub found_spans : {budget : ℕ} → f.kind ≡ span → Walks f.l es budget r ws → Found f es budget r ws
  found_spans e w = record { means = on_spans e w.means; worded = λ g. rw e (w.worded g) }

  pub found_pairs : (budget : ℕ) → f.kind ≡ pair → Right f.l (pairs.pair_entries es) (pairs.MeansPair f.l es) r ws → Found f es budget r ws
  found_pairs budget e w = record { means = on_pairs e w.means; worded = λ g. rw e (w.worded g) }

-- ---- what is spelled

module _ (l : ℕ) (ws : List ℕ) (can : Spells l ws) (out : List ℕ) (all : length out + 1 ≡ length ws + l) where
  -- as many letters as the output has bytes
  pub spelled_length : length (spell l ws) ≡ length out
  spelled_length = omega (arith, all, spell_length l ws can.some_word)

  none_left : {out' : List ℕ} → out' ≡ map letter_of (spell l ws) → out' ≡ map letter_of (spell l ws) ++ drop (length (spell l ws)) out
  none_left e = e ∙ sym (rw (drop_of_length-le out {i = length (spell l ws)} (omega (arith, spelled_length))) (append-nil _))

  module _ {r : MethodAnswer} {k : ℕ} {out' : List ℕ} where
    pub spelled_sole : r ≡ Sole k → out' ≡ map letter_of (spell l ws)
        → (given (is.Sole (length out) k) ≡ answer_of (given (says_method l ws r))) × (out' ≡ letters_after (given (says_method l ws r)) out)
    spelled_sole e o = rw e (ap (λ (n : ℕ). given (is.Sole n k)) (sym spelled_length), none_left o)

    pub spelled_several : r ≡ Several k → out' ≡ map letter_of (spell l ws)
        → (given (is.Several (length out) k) ≡ answer_of (given (says_method l ws r))) × (out' ≡ letters_after (given (says_method l ws r)) out)
    spelled_several e o = rw e (ap (λ (n : ℕ). given (is.Several n k)) (sym spelled_length), none_left o)

  -- its sequence, where it has one, has so many letters
  pub says_lettered : (r : MethodAnswer) → Lettered (length out) (says_method l ws r)
  says_lettered (Sole k) = spelled_length
  says_lettered (Several k) = spelled_length
  says_lettered (None k) = tt
  says_lettered (Unsettled k) = tt

module _ (l : ℕ) (ws out : List ℕ) {r : MethodAnswer} {k : ℕ} where
  pub spelled_none : r ≡ None k → (given (is.None k) ≡ answer_of (given (says_method l ws r))) × (out ≡ letters_after (given (says_method l ws r)) out)
  spelled_none e = rw e (refl, refl)

  pub spelled_unsettled : r ≡ Unsettled k
      → (given (is.Unsettled k) ≡ answer_of (given (says_method l ws r))) × (out ≡ letters_after (given (says_method l ws r)) out)
  spelled_unsettled e = rw e (refl, refl)

-- ---- the start of a longer output

-- the letters of a sequence are the first bytes of the output that it is written to
pub letters_start : (s before : List ℕ) → take (length s) (map letter_of s ++ drop (length s) before) ≡ map letter_of s
letters_start s before = take_at (map letter_of s) (drop (length s) before) (length s) (length-map s letter_of)

module _ (n : ℕ) (before : List ℕ) (room : n ≤ length before) where
  start_then : (s : List ℕ) → length s ≡ length (take n before)
      → map letter_of s ++ drop (length s) (take n before) ++ drop n before ≡ map letter_of s ++ drop (length s) before
  start_then s e =
      let none : drop (length s) (take n before) ≡ [] = drop_of_length-le (take n before) {i = length s} (omega (arith, e)) in
      let size : length s ≡ n = omega (arith, e, length-take n before) in
      rw (none, append-nil (map letter_of s)) (ap (λ (k : ℕ). map letter_of s ++ drop k before) (sym size))

  pub start_whole : (o : Outcome) → Lettered (length (take n before)) o
      → letters_after (given o) (take n before) ++ drop n before ≡ letters_after (given o) before
  start_whole (settled (sole s) k) e = start_then s e
  start_whole (settled (several s) k) e = start_then s e
  start_whole (settled no_build k) e = take-append-drop n before
  start_whole (unsettled k) e = take-append-drop n before

-- ---- what the check applies by itself

-- to the method of the kind, and to what is spelled
pub ruleset founds = (hold_kind, lists_of_kind, found_spans, found_pairs)

pub ruleset spellings = (spelled_sole, spelled_several, spelled_none, spelled_unsettled)
