-- All arrangements of a list of entries, one by one, and the sequences that they spell: slow, and computable, so that a small table can be
-- decided by computation.
--   arranged l n i p es     == the arrangements of the n entries es at the places i, i + 1, …, after p
--   arrangements l es       == the arrangements of es
--   sequences l es          == what they spell
-- Assumes nothing.
use mathlib.Core.Path.{◌≡◌, refl}
use mathlib.Core.Logic.{⊎_elim}
use mathlib.Core.Bool.{Bool, ◌&&◌}
use mathlib.Core.List.{List, [], ◌∷◌, map, flat_map}
use mathlib.Core.Option.{Option, none, some}
use Prim.Native.Nat.{ℕ, zero, suc}
use native.Mathlib.Omega.{arith}
use lib.ListN.{length}
use Rattle.base_lists.proofs.TestLaws.{both, is_true, true_is, both_and}
use Rattle.card_entries.specs.declared.Entry.{Entry}
use Rattle.card_entries.specs.Entry.{allows}
use Rattle.base_lists.specs.Members.{In, first, Reordered, empty, next, Choice, choices, keep}
use Rattle.build_sequence.specs.Arrangement.{follows, Standing, nobody, stands, Arrangement, words}
use Rattle.build_sequence.specs.Build.{spell, Build}
use Rattle.base_lists.proofs.ListLaws.{taken_choice, choice_taken, not_in_nil, in_cons, length_taken}
use Rattle.base_lists.proofs.ListLaws.{in_keep, keep_in, map_in, in_map, flat_map_in, in_flat_map}

-- the entry may stand at the place i, after p
abbrev pub can_stand : ℕ → ℕ → Option ℕ → Choice Entry → Bool
can_stand l i p c = allows c.entry.places i && follows l p c.entry.word

unfoldable pub arranged : ℕ → ℕ → ℕ → Option ℕ → List Entry → List (List Entry)
unfolding flat_map
arranged l zero i p es = [] ∷ []
arranged l (suc n) i p es =
    flat_map (λ c. map (λ o. c.entry ∷ o) (arranged l n (suc i) (some c.entry.word) c.left)) (keep (can_stand l i p) (choices es))

unfoldable pub arrangements : ℕ → List Entry → List (List Entry)
unfolding arranged
arrangements l es = arranged l (length es) 0 none es

unfoldable pub sequences : ℕ → List Entry → List (List ℕ)
unfolding arrangements spell
sequences l es = map (λ o. spell l (words o)) (arrangements l es)

-- ---- each is an arrangement

pub record Arranged (l i : ℕ) (p : Option ℕ) (es order : List Entry) : Type 0 where
  pub each : Reordered es order
  pub standing : Standing l i p order

arranged_sound : (l n i : ℕ) (p : Option ℕ) (es : List Entry) {order : List Entry} → length es ≡ n → In order (arranged l n i p es)
    → Arranged l i p es order
unfolding arranged
arranged_sound l zero i p [] n h =
    ⊎_elim (λ q. rw q (record { each = empty; standing = nobody })) (λ g. absurd (not_in_nil g)) (in_cons h)
arranged_sound l zero i p (e ∷ es) n h = absurd (omega arith)
arranged_sound l (suc n) i p es k h =
    let u = in_flat_map (λ c. map (λ o. c.entry ∷ o) (arranged l n (suc i) (some c.entry.word) c.left))
    (keep (can_stand l i p) (choices es)) h in
    let c = u.0 in
    let stand = in_keep (can_stand l i p) (choices es) u.1 in
    let taken = choice_taken es stand.0 in
    let test = both (allows c.entry.places i) (follows l p c.entry.word) (is_true (can_stand l i p c) stand.1) in
    let v = in_map (λ o. c.entry ∷ o) (arranged l n (suc i) (some c.entry.word) c.left) u.2 in
    let after = arranged_sound l n (suc i) (some c.entry.word) c.left (omega (arith, length_taken taken)) v.1 in
    rw v.2 (record { each = next taken after.each; standing = stands test.0 test.1 after.standing })

pub arrangements_sound : {l : ℕ} {es order : List Entry} → In order (arrangements l es) → Arrangement l es order
unfolding arrangements
arrangements_sound {l} {es} {order} h =
    let a = arranged_sound l (length es) 0 none es {order = order} refl h in record { each = a.each; standing = a.standing }

-- ---- each arrangement is among them

arranged_complete : {l i : ℕ} {p : Option ℕ} {es order : List Entry} (n : ℕ) → length es ≡ n → Reordered es order → Standing l i p order
    → In order (arranged l n i p es)
unfolding arranged
arranged_complete zero k empty nobody = first
arranged_complete (suc n) k empty s = absurd (omega arith)
arranged_complete zero k (next t r) s = absurd (let h = length_taken t in omega arith)
arranged_complete {l} {i} {p} (suc n) k (next {e} {rest} t r) (stands a f more) =
    let h = arranged_complete n (omega (arith, length_taken t)) r more in
    flat_map_in (λ c. map (λ o. c.entry ∷ o) (arranged l n (suc i) (some c.entry.word) c.left))
    (keep_in (can_stand l i p) (taken_choice t) (both_and (allows e.places i) (follows l p e.word) (true_is _ a) (true_is _ f))) (map_in (λ o. e ∷ o) h)

pub arrangements_complete : {l : ℕ} {es order : List Entry} → Arrangement l es order → In order (arrangements l es)
unfolding arrangements
arrangements_complete {l} {es} a = arranged_complete (length es) refl a.each a.standing

-- ---- what they spell

pub sequences_sound : {l : ℕ} {es : List Entry} {s : List ℕ} → In s (sequences l es) → Build l es s
unfolding sequences
sequences_sound {l} {es} h =
    let u = in_map (λ o. spell l (words o)) (arrangements l es) h in
    record { order = u.0; arrangement = arrangements_sound u.1; spelled = u.2 }

pub sequences_complete : {l : ℕ} {es : List Entry} {s : List ℕ} → Build l es s → In s (sequences l es)
unfolding sequences
sequences_complete {l} {es} b = rw b.spelled (map_in (λ o. spell l (words o)) (arrangements_complete b.arrangement))
