-- The goals of `card_writer::put_card` that the check leaves open; Invariants.antt says how it is met. Assumes nothing.
use mathlib.Core.Path.{◌≡◌, refl}
use mathlib.Core.List.{List, ◌++◌}
use Prim.Native.Nat.{ℕ, ◌+◌, ◌*◌, ◌-◌}
use native.Mathlib.Omega.{arith}
use lib.ListN.{length, drop, length-append, length-take, length-drop}
use Rattle.card_block.specs.Block.{block_bytes}
use Rattle.card_layout.specs.Layout.{size_of}
use Rattle.card_layout.proofs.CardLaws.{length_head_block}
use Rattle.card_writer.proofs.PuttingLaws.{blocked_one, blocked_turn, blocked_length, blocked_all}
use Rattle.card_block.specs.Sealing.{sealed}
use Rattle.card_entries.specs.declared.Format.{Format}
use Rattle.card_layout.specs.Card.{head_bytes}
use Rattle.card_writer.proofs.put_card.Goals as goal

pub slice_bounds-put_head-end-2 : goal.slice_bounds-put_head-end-2
slice_bounds-put_head-end-2 c = omega (arith, length-take block_bytes c.args.out.now, c.requires.format_fits)

pub put_head-requires : goal.put_head-requires
put_head-requires c = omega (arith, length-take block_bytes c.args.out.now, c.requires.format_fits)

-- where block 0 stands
length_begun : {head : List ℕ} (out : List ℕ) (f : Format) → head ≡ sealed (head_bytes f) 0 → length out ≡ size_of f.m
    → length (head ++ drop block_bytes out) ≡ size_of f.m
length_begun {head} out f made h =
    omega (arith, length-append head (drop block_bytes out), length_head_block f made, length-drop block_bytes out, h)

pub loop-k-init : goal.loop-k-init
loop-k-init c =
    let size = length_begun c.args.out.now c.args.f c.put_head.ensures c.requires.format_fits.3 in
    blocked_one _ _ _ c.put_head.new.part (drop block_bytes c.args.out.now) refl
    (omega (arith, size))
    c.put_head.ensures

pub slice_bounds-put_later-end : goal.slice_bounds-put_later-end
slice_bounds-put_later-end c =
    let so_far = c.loop-k.invariant in
    omega (arith, blocked_length _ _ _ so_far, so_far.size)

pub put_later-requires : goal.put_later-requires
put_later-requires c =
    let so_far = c.loop-k.invariant in
    let part = drop (block_bytes * c.loop-k.k) c.loop-k.out in
    let n : ℕ = block_bytes * c.loop-k.k + block_bytes - block_bytes * c.loop-k.k in
    record {
      block_and_index = omega (
        arith,
        length-take n part,
        length-drop (block_bytes * c.loop-k.k) c.loop-k.out,
        blocked_length _ _ _ so_far,
        so_far.size,
        so_far.begun,
        c.requires.format_fits,
      );
      listed = omega (arith, c.requires.listed);
    }

pub loop-k-preserved : goal.loop-k-preserved
loop-k-preserved c =
    blocked_turn _ _ _ c.loop-k.invariant (omega arith) c.put_later.ensures

pub shape_of-out : goal.shape_of-out
shape_of-out c =
    let size = length_begun c.args.out.now c.args.f c.put_head.ensures c.requires.format_fits.3 in
    omega (arith, blocked_length _ _ _ c.loop-k.invariant, size, c.requires.format_fits)

pub returns : goal.returns
returns c = blocked_all _ _ _ c.loop-k.invariant (omega arith)

-- past the last block
pub returns-2 : goal.returns-2
returns-2 c =
    blocked_all _ _ _ (blocked_turn _ _ _ c.loop-k.invariant (omega arith) c.put_later.ensures) (omega arith)
