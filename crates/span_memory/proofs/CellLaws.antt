-- What a cell tells. Assumes nothing.
use mathlib.Core.Path.{◌≡◌}
use mathlib.Core.List.{List}
use Prim.Native.Nat.{ℕ, ◌+◌, ◌*◌, ◌<◌}
use lib.ListN.{get_or}
use Rattle.span_memory.specs.Memory.{cells, Told}

pub told_at : {known : List ℕ} (r at : ℕ) {key size : ℕ} → at ≡ 2 * r → r < cells → 0 < key → get_or known at 0 ≡ key
    → get_or known (at + 1) 0 ≡ size
    → Told known key size
told_at r at is h some key_is size_is = record {
  some = some;
  cell = r;
  inside = h;
  key_is = rw is at key_is;
  size_is = rw is at size_is;
}
