-- Two cards whose entries pair off with equal words, the second of which allows more (demand 3): each build of the first is one of the
-- second, on pair cards and on span cards alike. Assumes nothing.
use mathlib.Core.Path.{◌≡◌, refl, ◌∙◌, ap, ap₂}
use mathlib.Core.Bool.{true}
use mathlib.Core.List.{List, [], ◌∷◌}
use mathlib.Core.Option.{Option, some}
use Prim.Native.Nat.{ℕ, suc}
use native.Mathlib.Omega.{arith}
use lib.ListN.{length}
use Rattle.card_entries.specs.declared.Entry.{Entry}
use Rattle.card_entries.specs.Entry.{allows}
use Rattle.base_lists.specs.Members.{Reordered, empty, next, Paired, nobody, pair}
use Rattle.build_sequence.specs.Arrangement.{follows, Standing, stands, words}
use Rattle.build_sequence.specs.Build.{spell, Build}
use Rattle.build_sequence.specs.Verdict.{Verdict, Tells, Widens}
use Rattle.build_sequence.specs.Compared.{NoLater}
use Rattle.base_lists.proofs.ListLaws.{length_taken, paired_take}
use Rattle.build_sequence.proofs.VerdictLaws.{tells_no_later}

pub paired_length : {A : Type 0} {R : A → A → Type 0} {l m : List A} → Paired R l m → length l ≡ length m
paired_length nobody = refl
paired_length (pair r p q ps) = let h = paired_length ps in omega (arith, length_taken p, length_taken q)

-- the partners of entries that stand in their places can stand there
pub record Partners (l i : ℕ) (p : Option ℕ) (es order : List Entry) : Type 0 where
  pub partners : List Entry
  pub each : Reordered es partners
  pub standing : Standing l i p partners
  pub same : words order ≡ words partners

widens_stands : {l i : ℕ} {p : Option ℕ} {e e' : Entry} {es : List Entry} → Widens e e' → allows e.places i ≡ true
    → follows l p e.word ≡ true
    → Standing l (suc i) (some e.word) es
    → Standing l i p (e' ∷ es)
widens_stands {i} w a f more = stands (w.places i a) (rw w.word at f) (rw w.word at more)

standing_wider : {l i : ℕ} {p : Option ℕ} {es es' order : List Entry} → Paired Widens es es' → Reordered es order → Standing l i p order
    → Partners l i p es' order
standing_wider nobody empty s = record { partners = []; each = empty; standing = s; same = refl }
standing_wider (pair r p q ps) empty s = absurd (let h = length_taken p in omega arith)
standing_wider {i = i} ps (next t r) (stands a f more) =
    let u = paired_take ps t in
    let after = standing_wider {i = suc i} u.4 r more in
    record {
      partners = u.0 ∷ after.partners;
      each = next u.3 after.each;
      standing = widens_stands u.2 a f after.standing;
      same = ap₂ (λ w ws. w ∷ ws) u.2.word after.same;
    }

pub build_wider : {l : ℕ} {es es' : List Entry} {s : List ℕ} → Paired Widens es es' → Build l es s → Build l es' s
build_wider {l} ps b =
    let u = standing_wider ps b.arrangement.each b.arrangement.standing in
    record {
      order = u.partners;
      arrangement = record { each = u.each; standing = u.standing };
      spelled = b.spelled ∙ ap (spell l) u.same;
    }

pub verdict_wider : (l : ℕ) {es es' : List Entry} → Paired Widens es es' → (v v' : Verdict) → Tells (Build l es) v → Tells (Build l es') v'
    → NoLater v v'
verdict_wider l {es} {es'} ps v v' p q = tells_no_later (Build l es) (Build l es') (λ s b. build_wider ps b) v v' p q
