-- `settle_narrow` meets its contract: what the method finds is spelled into the start of the output. Assumes nothing.
use mathlib.Core.Path.{◌≡◌, sym}
use mathlib.Core.List.{List}
use Prim.Native.Nat.{ℕ, ◌+◌, ◌-◌, ◌≤◌}
use native.Mathlib.Omega.{arith}
use lib.ListN.{length, take}
use lib.Seq.{length-take-le}
use Rattle.card_entries.specs.Bounds.{most_entries}
use Rattle.card_entries.specs.KindLists.{SpanLists}
use Rattle.card_entries.proofs.HoldLaws.{some_letter, few_letters, few_entries}
use Rattle.build_card.proofs.SoundLaws.{found_all, hold_spells}
use Rattle.build_card.proofs.FromLaws.{says_lettered}
use Rattle.build_narrow.proofs.TestLaws.{passes_hold, passes_room, passes_narrow}
use Rattle.build_narrow.proofs.SettlingLaws.{start_settles}
use Rattle.build_narrow.proofs.settle_narrow.Goals as goal

module _ {l : ℕ} {words ones twos : List ℕ} (lists : SpanLists l words ones twos) where
  -- the words are spelled into as many bytes as they have letters
  as_many : (found out : List ℕ) {n : ℕ} → most_entries ≤ length found → n ≡ length words + l - 1 → n ≤ length out
      → length (take n out) + 1 ≡ length (take (length words) found) + l
  as_many found out {n} h e room = omega (arith, length-take-le n out room, found_all lists found h, some_letter lists, e)

pub letters_in-n-requires : goal.letters_in-n-requires
letters_in-n-requires c =
    let lists = passes_hold c.requires in (few_entries lists, some_letter lists, few_letters lists)

pub settle-r-requires : goal.settle-r-requires
settle-r-requires c =
    let lists = passes_hold c.requires in
    record { span_lists = lists; narrow = passes_narrow c.requires; words_in_bounds = few_entries lists }

pub slice_bounds-found-end : goal.slice_bounds-found-end
slice_bounds-found-end c = omega (arith, few_entries (passes_hold c.requires))

pub slice_bounds-spelled-end : goal.slice_bounds-spelled-end
slice_bounds-spelled-end c = sym (found_all (passes_hold c.requires) c.settle-r.new.found (omega arith))

pub slice_bounds-spelled-end-2 : goal.slice_bounds-spelled-end-2
slice_bounds-spelled-end-2 c = omega (arith, passes_room c.requires, c.letters_in-n.ensures)

pub slice_bounds-spelled-end-3 : goal.slice_bounds-spelled-end-3
slice_bounds-spelled-end-3 c = sym (length-take-le _ _ (omega (arith, passes_room c.requires, c.letters_in-n.ensures)))

pub spelled-requires : goal.spelled-requires
spelled-requires c =
    let lists = passes_hold c.requires in
    let found = c.settle-r.new.found in
    let room : c.letters_in-n.result ≤ length c.args.out.now = omega (arith, passes_room c.requires, c.letters_in-n.ensures) in
    record {
      spells = hold_spells lists (found_all lists found (omega arith));
      out_len = as_many lists found c.args.out.now (omega arith) c.letters_in-n.ensures room;
    }

pub returns : goal.returns
returns c =
    let lists = passes_hold c.requires in
    let found = c.settle-r.new.found in
    let room : c.letters_in-n.result ≤ length c.args.out.now = omega (arith, passes_room c.requires, c.letters_in-n.ensures) in
    let all = found_all lists found (omega arith) in
    let many = as_many lists found c.args.out.now (omega arith) c.letters_in-n.ensures room in
    start_settles c.requires.hold room c.settle-r.ensures.means
    (says_lettered c.args.l _ (hold_spells lists all) (take c.letters_in-n.result c.args.out.now) many c.settle-r.result)
    c.spelled.ensures.value c.spelled.ensures.out_after
