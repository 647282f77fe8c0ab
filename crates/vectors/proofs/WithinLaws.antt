-- Laws of cards that stand within their output. No contract cites this file. Assumes nothing.
use mathlib.Core.Path.{refl}
use mathlib.Core.List.{List}
use Prim.Native.Nat.{ℕ}
use native.Mathlib.Omega.{arith}
use lib.ListN.{length}
use Rattle.std.specs.Prelude.{Result, Ok, Err}
use Rattle.base_answers.specs.declared.Refusal.{Refusal}
use Rattle.base_answers.specs.Answer.{says}
use Rattle.card_writer.specs.Writing.{Writes}
use Rattle.card_writer.proofs.WritingLaws.{wrote_room, wrote_size}
use Rattle.vectors.specs.Within.{CardWithin}

-- a card that was written had room
pub wrote_within : {limit kind l : ℕ} {words ones twos before after : List ℕ} (w : Result ℕ Refusal)
    → Writes limit kind l words ones twos before (says w) after
    → CardWithin (length before) w
wrote_within (Ok n) did = omega (arith, wrote_room did refl, wrote_size did refl)
wrote_within (Err r) did = tt
