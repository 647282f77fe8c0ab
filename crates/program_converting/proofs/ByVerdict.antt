-- What `card2fasta` writes, by the verdict (02, §1). Where it is sole and the name is one of the profile, exactly the record stands on standard
-- output and nothing on standard error; with any other name 20 is the refusal, and no other can come: the letters of a build are letters, there
-- is one at least, and the record has room. With every other verdict nothing stands on standard output. Assumes nothing.
use mathlib.Core.Path.{◌≡◌, refl, ap, ◌∙◌}
use mathlib.Core.Bool.{true, false}
use mathlib.Core.List.{List, [], ◌∷◌, ◌++◌, map}
use Prim.Native.Nat.{ℕ, ◌≤◌, ◌<◌}
use native.Mathlib.Omega.{arith}
use lib.ListN.{length, length-map, take, drop}
use Rattle.base_answers.specs.Numbers.{Name}
use Rattle.base_answers.specs.Answer.{Answer, given, refused}
use Rattle.base_lists.proofs.RowLaws.{length_row}
use Rattle.base_letters.specs.Letters.{codes, letter_of, is_letter}
use Rattle.base_letters.proofs.Inverse.{letter_is}
use Rattle.card_entries.specs.declared.Slot.{Slot}
use Rattle.card_entries.specs.Entry.{entry_of}
use Rattle.card_entries.specs.Fault.{least_length, most_length}
use Rattle.card_entries.specs.Bounds.{least_entries}
use Rattle.card_layout.specs.Layout.{told_by, slot_of, slots_on, entries_on}
use Rattle.card_entries.proofs.Laws.{within_both}
use Rattle.card_reader.proofs.SoundLaws.{holds_reads}
use Rattle.base_lists.specs.Members.{In, first, later}
use Rattle.build_sequence.specs.Build.{Build}
use Rattle.build_sequence.specs.Arrangement.{words}
use Rattle.build_sequence.specs.Verdict.{sole, several, no_build, Outcome, settled, unsettled}
use Rattle.build_sequence.proofs.SpellingLaws.{spell_coded}
use Rattle.build_sequence.proofs.BuildLaws.{build_length}
use Rattle.pair_theory.specs.Settling as pairs
use Rattle.span_theory.specs.Settling as spans
use Rattle.base_text.specs.Text.{refusal_line}
use Rattle.base_text.proofs.PrintedLaws.{printed_bytes}
use Rattle.text_fasta.specs.Record.{are_all, is_name, are_letters, record_of}
use Rattle.text_fasta.specs.Reading.{Reads}
use Rattle.text_fasta.specs.Profile.{IsRecord}
use Rattle.text_fasta.proofs.LeadingLaws.{all_none, all_first}
use Rattle.text_fasta.proofs.TestLaws.{name_holds, letters_all}
use Rattle.text_fasta.proofs.AnswerLaws.{length_record}
use Rattle.text_fasta.proofs.RoundTrip.{record_is_read}
use Rattle.text_fasta.proofs.ByTests.{writing_unnamed, writing_given}
use Rattle.build_card.specs.Building.{Means, on_pairs, on_spans, Says, tells}
use Rattle.build_card.proofs.CardLaws.{order_held}
use Rattle.build_card.proofs.Determined.{says_one}
use Rattle.program_lines.specs.Lines.{program_budget, letters_room, verdict_line}
use Rattle.program_converting.specs.declared.Lengths.{Lengths}
use Rattle.program_converting.specs.Converting.{Streams, on_output, on_errors, by_answer, Converted}
use Rattle.program_converting.specs.Fasta.{record_room, NotSole, fasta_by, ToFasta}

-- ---- the letters of a build

-- each is one of the four codes (`spell_coded`), and so a letter
all_letters : (s : List ℕ) → ((c : ℕ) → In c s → c < codes) → are_all is_letter (map letter_of s) ≡ true
all_letters [] coded = all_none is_letter
all_letters (c ∷ s) coded =
    all_first is_letter (letter_of c) (map letter_of s)
    ∙ rw (letter_is c (coded c first), all_letters s (λ d is. coded d (later is))) refl

-- ---- those of a sole build

sole_build : {kind l budget : ℕ} {es : List Slot} {s : List ℕ} {n : ℕ} → Means kind l es budget (settled (sole s) n)
    → Build l (map (entry_of kind) es) s
sole_build (on_pairs e (pairs.settles t)) = rw e t.0
sole_build (on_spans e (spans.settles a b t)) = rw e t.0

-- each is a code, there is one at least, and there are not more than there is room for
pub record Lettered (limit : ℕ) (s : List ℕ) : Type 0 where
  coded : (c : ℕ) → In c s → c < codes
  some_letter : 0 < length s
  few : length s ≤ letters_room limit

pub sole_lettered : {limit : ℕ} {card s : List ℕ} {n : ℕ} → Says limit card program_budget (letters_room limit) (given (settled (sole s) n))
    → Lettered limit s
sole_lettered {limit} {card} (tells holds means) =
    let reads = holds_reads limit card (order_held limit card (letters_room limit) holds) in
    let l-in = within_both least_length most_length (told_by card).l reads.hold.letters in
    let m-in = within_both least_entries limit (told_by card).m reads.hold.count in
    let built = sole_build means in
    let many : length (entries_on card) ≡ (told_by card).m = length-map (slots_on card) _ ∙ length_row (slot_of card) 0 (told_by card).m in
    let long = build_length built (omega (arith, many, m-in.0)) in
    record {
      coded = λ c is. spell_coded _ (words built.order) (rw built.spelled at is);
      some_letter = omega (arith, many, long, l-in.0, m-in.0);
      few = omega (arith, many, long, l-in.1, m-in.1);
    }

lettered_letters : {limit : ℕ} {s : List ℕ} → Lettered limit s → are_letters (map letter_of s) ≡ true
lettered_letters {s = s} lettered =
    letters_all (map letter_of s) (omega (arith, lettered.some_letter, length-map s letter_of)) (all_letters s lettered.coded)

-- ---- its record

module _ (limit : ℕ) (name s : List ℕ) (n : ℕ) where
  abbrev ls : List ℕ
  ls = map letter_of s

  abbrev written : Streams
  written = fasta_by limit name (given (settled (sole s) n))

  pub named : Lettered limit s → is_name name ≡ true → written ≡ on_output (record_of name ls)
  unfolding fasta_by
  named lettered is =
      let many : length ls ≡ length s = length-map s letter_of in
      let short : length (record_of name ls) ≤ record_room limit =
      omega (arith, length_record name ls, (name_holds name is).1, many, lettered.few) in
      ap (by_answer (record_of name ls)) (writing_given name ls (record_room limit) is (lettered_letters lettered) short)

  pub unnamed : is_name name ≡ false → written ≡ on_errors (refusal_line Name 0)
  unfolding fasta_by
  unnamed other = ap (by_answer (record_of name ls)) (writing_unnamed name ls (record_room limit) other)

-- ---- another verdict

no_record : (limit : ℕ) (name : List ℕ) (o : Outcome) → NotSole o → fasta_by limit name (given o) ≡ on_errors (verdict_line o)
unfolding fasta_by
no_record limit name (settled (sole s) n) other = absurd (other s n refl)
no_record limit name (settled (several s) n) other = refl
no_record limit name (settled no_build n) other = refl
no_record limit name (unsettled n) other = refl

-- ---- what is written

module _ {limit : ℕ} {card name out err out' err' : List ℕ} {r : Lengths} (did : ToFasta limit card name out err r out' err') where
  by_said : {a : Answer Outcome} {streams : Streams} → Says limit card program_budget (letters_room limit) a
      → fasta_by limit name a ≡ streams
      → Converted streams out err r out' err'
  by_said says e = rw e at (rw (says_one did.says says) at did.written)

  module _ {s : List ℕ} {n : ℕ} (says : Says limit card program_budget (letters_room limit) (given (settled (sole s) n))) where
    pub sole_named : is_name name ≡ true → Converted (on_output (record_of name (map letter_of s))) out err r out' err'
    sole_named is = by_said says (named limit name s n (sole_lettered says) is)

    -- which is the record of that name and of the letters of the build
    pub sole_record : is_name name ≡ true → IsRecord (take r.output out') name (map letter_of s)
    sole_record is =
        let on = (sole_named is).to_output in
        record { named = is; lettered = lettered_letters (sole_lettered says); is = printed_bytes on ∙ on.prints }

    -- so that both are had again by reading it
    pub sole_reads_back : is_name name ≡ true → {a b a' b' : List ℕ} {q : Answer (ℕ × ℕ)} → Reads (take r.output out') a b q a' b'
        → length name ≤ length a
        → length (map letter_of s) ≤ length b
        → (q ≡ given (length name, length (map letter_of s)))
        × (a' ≡ name ++ drop (length name) a)
        × (b' ≡ map letter_of s ++ drop (length (map letter_of s)) b)
    sole_reads_back is reads h g = record_is_read reads (sole_record is) h g

    pub sole_unnamed : is_name name ≡ false → Converted (on_errors (refusal_line Name 0)) out err r out' err'
    sole_unnamed other = by_said says (unnamed limit name s n other)

  pub not_sole : {o : Outcome} → Says limit card program_budget (letters_room limit) (given o) → NotSole o
      → Converted (on_errors (verdict_line o)) out err r out' err'
  not_sole {o} says other = by_said says (no_record limit name o other)

  pub card_refused : {n p : ℕ} → Says limit card program_budget (letters_room limit) (refused n p)
      → Converted (on_errors (refusal_line n p)) out err r out' err'
  unfolding fasta_by
  card_refused says = by_said says refl

-- where something stands on standard error alone, no byte of the other buffer differs
pub no_output : {bytes out err out' err' : List ℕ} {r : Lengths} → Converted (on_errors bytes) out err r out' err'
    → (r.output ≡ 0) × (out' ≡ out)
no_output {out} {r} did =
    let on = did.to_output in
    let none : r.output ≡ 0 = on.count ∙ ap length on.prints in
    (none, on.output ∙ rw (on.prints, none) refl)
