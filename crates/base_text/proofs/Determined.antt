-- What is put has one outcome: two that both meet `Put` of the same text, place and buffer are equal. Each contract of this crate is `Put`
-- of what its function is given. Assumes nothing.
use mathlib.Core.Path.{◌≡◌, sym, ◌∙◌}
use mathlib.Core.List.{List}
use Prim.Native.Nat.{ℕ}
use Rattle.base_text.specs.Putting.{Put}

pub put_one : {xs before after after' : List ℕ} {at to to' : ℕ} → Put xs at before to after → Put xs at before to' after'
    → (to ≡ to') × (after ≡ after')
put_one p q = (p.ends ∙ sym q.ends, p.stands ∙ sym q.stands)
