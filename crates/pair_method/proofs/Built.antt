-- Laws of the whole build. No contract cites this file. Assumes nothing.
use mathlib.Core.Path.{◌≡◌, ◌∙◌}
use mathlib.Core.Bool.{Bool, true}
use mathlib.Core.List.{List}
use mathlib.Core.Logic.{by_cases}
use Prim.Native.Nat.{ℕ, ◌≤◌, ◌<◌}
use native.Mathlib.Omega.{arith}
use native.Mathlib.Decide.{dec_lt}
use lib.ListN.{length, take, replicate, length-replicate, get_or-replicate, get_or-eq_default}
use lib.Seq.{length-take-le}
use Rattle.std.specs.Prelude.{Some}
use Rattle.pair_theory.specs.Arranged.{Pairs, Inside}
use Rattle.pair_theory.specs.Chosen.{Closed, Upto}
use Rattle.pair_following.specs.Following.{nth, count_in, pairs_of, HoldsPairs, Links, Progress, progress_of, Trail, Ready}
use Rattle.pair_following.proofs.ExclusionLaws.{unplaced_all}
use Rattle.pair_choosing.specs.Choosing.{ChoosesAll}
use Rattle.pair_forcing.specs.Forcing.{Sure, StaysSure}
use Rattle.pair_settling.specs.Settling.{GivesPlaces}
use Rattle.pair_method.specs.Built.{FindsBuild}
use Rattle.pair_theory.proofs.Upto.{upto_none, found}

-- ---- the start: no entry has a place

none_placed : {m f : ℕ} → f < m → nth (replicate m m) f ≡ m
none_placed {m} {f} p = get_or-replicate m f m 0 p

pub blank_trail : {m : ℕ} {trail : List ℕ} → length trail ≡ m → Trail m (progress_of (replicate m m) trail 0)
blank_trail {m} h =
    record {
      puts = length-replicate m m;
      trails = h;
      blank = λ f. by_cases (dec_lt f m) (λ p. omega (arith, none_placed p))
          (λ p. omega (arith, get_or-eq_default (replicate m m) 0 {n = f} (omega (arith, length-replicate m m))));
      count = omega (arith, unplaced_all m m);
      inside = λ i p. absurd (omega arith);
      placed = λ i p. absurd (omega arith);
    }

pub blank_closed : {c : Pairs} → Closed c (nth (replicate c.m c.m))
blank_closed {c} =
    record {
      allowed = λ e p h. absurd (omega (arith, none_placed p));
      clear = λ e f q p fp d h. absurd (omega (arith, none_placed p));
    }

pub blank_sure : {c : Pairs} → Sure c (nth (replicate c.m c.m))
blank_sure {c} = record { closed = blank_closed; every = λ σ a e p h. absurd (omega (arith, none_placed p)) }

-- ---- the answer

pub builds_found : {c : Pairs} → Inside c → {a : Progress} {put words : List ℕ} {k : ℕ} {ok ok' : Bool} → ChoosesAll c a ok k words
    → ok ≡ true → GivesPlaces c a.put put ok' → ok' ≡ true → FindsBuild c words (Some k)
builds_found {c} i {a} {put} {words} {k} g h d h' =
    let y = d.good h' in
    let first = found c (nth a.put) (nth put) (nth words) k i (g.good h) y.0 y.1 in
    record { yes = λ k' x. (let e : k ≡ k' = cc in rw e at first); no = λ x. cc }

-- ---- what the calls ask

-- the first n of a list are as many
pub part_all : (l : List ℕ) {n m : ℕ} → n ≤ length l → n ≡ m → length (take n l) ≡ m
part_all l {n} h e = length-take-le n l h ∙ e

pub begin : {card : List ℕ} {mask : ℕ} {put trail : List ℕ} → HoldsPairs card mask → Links card
    → put ≡ replicate (count_in card) (count_in card) → length trail ≡ count_in card
    → Ready card mask (progress_of put trail 0) × Sure (pairs_of card mask) (nth put)
begin k l a b = rw a (record { holds = k; links = l; shape = blank_trail b }, blank_sure)

-- after what is forced the words can be decided
pub forced : {card : List ℕ} {mask : ℕ} {a : Progress} (words : List ℕ) {ok : Bool} → HoldsPairs card mask → Links card
    → StaysSure (pairs_of card mask) a ok → ok ≡ true → length words ≡ count_in card
    → Ready card mask a
    × (Closed (pairs_of card mask) (nth a.put) × ((length words ≡ count_in card) × Upto (pairs_of card mask) (nth a.put) 0 (nth words) 0))
forced {card} {mask} {a} words k l r h d =
    let y = r.good h in
    let none = upto_none (pairs_of card mask) (nth a.put) (nth words) y.closed y.every in
    (record { holds = k; links = l; shape = r.shape }, (y.closed, (d, none)))
