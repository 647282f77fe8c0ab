-- Arrangements (01, "What a build is"), on pair cards and on span cards alike: an entry is a word with its allowed places.
--   overlaps l v w         == the last l−1 letters of v are the first l−1 of w
--   follows l p w          == w can stand after p, the word before it, if there is one
--   Standing l i p es      == the entries es can stand at the places i, i + 1, …, after p
--   Arrangement l es order == `order` has the entries es in the order of their places
--   words es               == the words of the entries, in order
-- Places count from 0. "Entries with equal words are separate entries with their own places." Assumes nothing.
use Rattle.std.specs.Prelude.{◌≡◌, Bool, true, List, [], ◌∷◌, map, ℕ, suc, ◌-◌, ◌^◌, ◌/◌, ◌%◌, eqb}
use Rattle.std.proofs.Math.Option.{Option, none, some}
use Rattle.card_entries.specs.declared.Entry.{Entry}
use Rattle.card_entries.specs.Entry.{allows}
use Rattle.base_lists.specs.Members.{Reordered}

-- "the last l−1 letters of each word are the first l−1 of the next"; a word's value has its "first letter most significant", so that
-- its last l−1 letters are the remainder by 4^(l−1), and its first l−1 the quotient by 4
unfoldable pub overlaps : ℕ → ℕ → ℕ → Bool
overlaps l v w = eqb (v % 4 ^ (l - 1)) (w / 4)

-- at place 0 nothing stands before
abbrev pub follows : ℕ → Option ℕ → ℕ → Bool
follows l none w = true
follows l (some v) w = overlaps l v w

pub data Standing (l : ℕ) : ℕ → Option ℕ → List Entry → Type 0 where
  nobody : {i : ℕ} {p : Option ℕ} → Standing l i p []
  stands : {i : ℕ} {p : Option ℕ} {e : Entry} {es : List Entry}
      → allows e.places i ≡ true
      → follows l p e.word ≡ true
      → Standing l (suc i) (some e.word) es
      → Standing l i p (e ∷ es)

-- "An arrangement puts each entry at its own place 0..m−1, an allowed one for it, so that the last l−1 letters of each word are the first
-- l−1 of the next"
pub record Arrangement (l : ℕ) (es order : List Entry) : Type 0 where
  pub each : Reordered es order
  pub standing : Standing l 0 none order

abbrev pub words : List Entry → List ℕ
words es = map (λ e. e.word) es
