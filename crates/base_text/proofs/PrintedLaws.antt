-- Laws of what is printed: text that is put at the start of a buffer. No contract cites this file. Assumes nothing.
use mathlib.Core.Path.{◌≡◌, sym, ap, ◌∙◌}
use mathlib.Core.List.{List, ◌++◌}
use Prim.Native.Nat.{ℕ, ◌+◌, ◌≤◌}
use native.Mathlib.Omega.{arith}
use lib.ListN.{length, take, drop, length-append}
use lib.Seq.{take-append_seam}
use Rattle.base_lists.proofs.PutLaws.{put_start}
use Rattle.base_text.specs.Text.{Printed}
use Rattle.base_text.specs.Putting.{Put}

module _ {Prints : List ℕ → Type 0} where
  pub put_printed : {bytes before after : List ℕ} {n : ℕ} → Prints bytes → Put bytes 0 before n after → Printed Prints before n after
  put_printed {bytes} {before} p put =
      let here : 0 + length bytes ≡ length bytes = omega arith in
      record {
        bytes = bytes;
        prints = p;
        count = put.ends ∙ here;
        output = put.stands ∙ put_start before bytes ∙ ap (λ (k : ℕ). bytes ++ drop k before) (sym (put.ends ∙ here));
      }

  -- it is a part of the buffer
  pub printed_fits : {n : ℕ} {before after : List ℕ} → Printed Prints before n after → n ≤ length after
  printed_fits {n} {before} did =
      omega (arith, did.count, ap length did.output, length-append did.bytes (drop n before))

  -- it stands at the start
  pub printed_bytes : {n : ℕ} {before after : List ℕ} (did : Printed Prints before n after) → take n after ≡ did.bytes
  printed_bytes {n} {before} did =
      ap (take n) did.output
      ∙ ap (λ (k : ℕ). take k (did.bytes ++ drop n before)) did.count
      ∙ take-append_seam did.bytes (drop n before)

  -- where one thing at most is printed, one outcome at most is right
  pub printed_one : ((xs ys : List ℕ) → Prints xs → Prints ys → xs ≡ ys) → {before after after' : List ℕ} {n n' : ℕ}
      → Printed Prints before n after
      → Printed Prints before n' after'
      → (n ≡ n') × (after ≡ after')
  printed_one one {before} {n = n} p q =
      let bytes = one p.bytes q.bytes p.prints q.prints in
      let count = p.count ∙ ap length bytes ∙ sym q.count in (
        count,
        p.output
            ∙ ap (λ (xs : List ℕ). xs ++ drop n before) bytes
            ∙ ap (λ (k : ℕ). q.bytes ++ drop k before) count
            ∙ sym q.output,
      )
