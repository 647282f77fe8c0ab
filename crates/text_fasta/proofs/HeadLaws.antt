-- Laws of the first line of a record: its mark, and its name, whose end is looked for in as many bytes as a name may have and one more. Assumes
-- nothing.
use mathlib.Core.Path.{◌≡◌, refl, sym, ap, ◌∙◌}
use mathlib.Core.Bool.{Bool, true, false, ◌&&◌, and-true}
use mathlib.Core.List.{List, []}
use Prim.Native.Nat.{ℕ, ◌+◌, ◌-◌, ◌≤◌, ◌<◌}
use native.Mathlib.Omega.{arith}
use lib.ListN.{length, get_or, take, drop, length-drop, drop_of_length-le, get_or-eq_default}
use lib.Seq.{take_all, length-take-le, get_or-drop}
use lib.Dec.{eqb, ltb}
use borrow.Author.Tests.{eqb-true, eq-eqb, ne_eqb, ltb-true, ltb-false}
use Rattle.std.specs.Prelude.{min}
use Rattle.std.proofs.lemmas.List.{take_min}
use Rattle.base_lists.proofs.TestLaws.{both}
use Rattle.text_fasta.specs.Record.{newline, mark, leading, is_name}
use Rattle.text_fasta.specs.Reading.{no_break, name_length, name_in, is_headed, body_in}
use Rattle.text_fasta.specs.Inner.{name_reach}
use Rattle.text_fasta.proofs.LeadingLaws.{leading_few, leading_next, leading_take, leading_take_few}
use Rattle.text_fasta.proofs.TestLaws.{name_long, name_holds}
use Rattle.text_fasta.proofs.BodyLaws.{break_is}

-- a test of three parts, of which the last fails
last_fails : (t u : Bool) {v : Bool} → v ≡ false → false ≡ (t && (u && v))
last_fails true true e = rw e refl
last_fails true false e = refl
last_fails false u e = refl

module _ (r : List ℕ) where
  abbrev after : List ℕ
  after = drop 1 r

  -- the parts of the test
  abbrev marked : Bool
  marked = eqb (get_or r 0 0) mark

  abbrev ended : Bool
  ended = eqb (get_or r (name_length r + 1) 0) newline

  pub name_length_lem : length (name_in r) ≡ name_length r
  unfolding name_length
  name_length_lem = length-take-le (name_length r) after (leading_few no_break after)

  -- of no byte, and of no more than are looked at
  pub nothing_leads : length r ≡ 0 → 0 ≡ leading no_break (take name_reach after)
  unfolding leading
  nothing_leads h =
      let none : after ≡ [] = drop_of_length-le r {i = 1} (omega arith) in
      rw none refl

  pub in_reach : {end : ℕ} → end ≡ min (length r) (name_reach + 1)
      → leading no_break (take (end - 1) after) ≡ leading no_break (take name_reach after)
  in_reach {end} e =
      let within : end - 1 ≡ min name_reach (length after) = omega (arith, e, length-drop 1 r) in
      ap (leading no_break) (ap (λ (k : ℕ). take k after) within ∙ take_min name_reach after)

  module _ {n : ℕ} (is : n ≡ leading no_break (take name_reach after)) where
    pub within_reach : n ≤ name_reach
    within_reach =
        go (ltb name_reach (length after)) refl
      where
        few : leading no_break (take name_reach after) ≤ length (take name_reach after)
        few = leading_few no_break (take name_reach after)

        go : (t : Bool) → ltb name_reach (length after) ≡ t → n ≤ name_reach
        go true q = omega (arith, few, length-take-le name_reach after (omega (arith, ltb-true name_reach (length after) q)))
        go false q =
            let h = ltb-false name_reach (length after) q in
            omega (arith, few, ap length (take_all name_reach after (omega arith)))

    not_more : n ≤ name_length r
    unfolding name_length
    not_more = rw is (leading_take_few no_break name_reach after)

    own_length : n < name_reach → n ≡ name_length r
    unfolding name_length
    own_length h = is ∙ leading_take no_break name_reach after (omega arith)

    -- a record that ends before the name's line does
    pub no_end : length r ≤ n + 1 → false ≡ is_headed r
    unfolding is_headed
    no_end h =
        let none : get_or r (name_length r + 1) 0 ≡ 0 = get_or-eq_default r 0 (omega (arith, not_more)) in
        last_fails marked (is_name (name_in r)) (rw none refl)

    pub headed_by_name : n + 1 < length r → get_or r 0 0 ≡ mark → {t : Bool} → t ≡ is_name (take (n + 1 - 1) after) → t ≡ is_headed r
    unfolding is_headed name_length
    headed_by_name h first e =
        let same : n + 1 - 1 ≡ n = omega arith in
        e ∙ ap (λ (k : ℕ). is_name (take k after)) same ∙ go (ltb n name_reach) refl
      where
        some : n < length after
        some = omega (arith, length-drop 1 r)

        mark_holds : marked ≡ true
        mark_holds = eq-eqb (get_or r 0 0) mark first

        near : n ≡ name_length r → is_name (take n after) ≡ is_headed r
        near same =
            let stops : no_break (get_or after (name_length r) 0) ≡ false = leading_next no_break after (omega (arith, some, same)) in
            let there : get_or r (name_length r + 1) 0 ≡ newline =
            ap (λ (k : ℕ). get_or r k 0) (omega arith) ∙ sym (get_or-drop 1 r (name_length r) 0) ∙ break_is (get_or after (name_length r) 0) stops in
            rw (same, mark_holds, eq-eqb (get_or r (name_length r + 1) 0) newline there) (sym (and-true (is_name (name_in r))))

        far : name_reach ≤ n → is_name (take n after) ≡ is_headed r
        far g =
            let here : length (take n after) ≡ n = length-take-le n after (omega (arith, some)) in
            let one = name_long (take n after) (omega (arith, here)) in
            let other = name_long (name_in r) (omega (arith, name_length_lem, not_more)) in
            sym one ∙ rw (mark_holds, sym other) refl

        go : (t : Bool) → ltb n name_reach ≡ t → is_name (take n after) ≡ is_headed r
        go true q = near (own_length (ltb-true n name_reach q))
        go false q = far (ltb-false n name_reach q)

    -- of a record that has one, the name's own length
    pub name_found : is_headed r ≡ true → n ≡ name_length r
    unfolding is_headed
    name_found e =
        let parts = both marked (is_name (name_in r) && ended) e in
        let name = name_holds (name_in r) (both (is_name (name_in r)) ended parts.1).0 in
        own_length (omega (arith, not_more, name_length_lem, name.1))

  -- the parts of a record that has a name
  pub headed_parts : is_headed r ≡ true → (get_or r 0 0 ≡ mark) × (is_name (name_in r) ≡ true) × (get_or r (name_length r + 1) 0 ≡ newline)
  unfolding is_headed
  headed_parts e =
      let one = both marked (is_name (name_in r) && ended) e in
      let two = both (is_name (name_in r)) ended one.1 in
      (eqb-true (get_or r 0 0) mark one.0, two.0, eqb-true (get_or r (name_length r + 1) 0) newline two.1)

  -- it goes on after the name's line, and has a body, or an empty one
  pub headed_room : is_headed r ≡ true → name_length r + 2 ≤ length r
  headed_room e = go (ltb (name_length r + 1) (length r)) refl
    where
      go : (t : Bool) → ltb (name_length r + 1) (length r) ≡ t → name_length r + 2 ≤ length r
      go true q = omega (arith, ltb-true (name_length r + 1) (length r) q)
      go false q =
          let none : get_or r (name_length r + 1) 0 ≡ 0 = get_or-eq_default r 0 (ltb-false (name_length r + 1) (length r) q) in
          absurd (omega (arith, none, (headed_parts e).2))

  -- the bytes of both parts, as they are lent
  module _ {n : ℕ} (is : n ≡ name_length r) where
    pub name_part : take (n + 1 - 1) (drop 1 r) ≡ name_in r
    name_part = let same : n + 1 - 1 ≡ name_length r = omega (arith, is) in ap (λ (k : ℕ). take k after) same

    pub body_part : take (length r - (n + 2)) (drop (n + 2) r) ≡ body_in r
    body_part =
        take_all (length r - (n + 2)) (drop (n + 2) r) (omega (arith, length-drop (n + 2) r)) ∙ ap (λ (k : ℕ). drop (k + 2) r) is

  -- another byte where the mark should be
  pub no_mark : (get_or r 0 0 ≡ mark → ⊥) → false ≡ is_headed r
  unfolding is_headed
  no_mark n = rw (ne_eqb (get_or r 0 0) mark n) refl
