-- "For every card, budget and lent buffer there is one of the answers listed in document 01, and the call ends. Each entry point tests its own
-- input." (demand 1): each operation of 01 asks nothing of its caller, and each call of it ends, with an answer and buffers that meet its
-- contract. `Pre` is what a contract asks, as it is read from the source. Assumes nothing.
use contract.Lifetimes.{Lfts}
use borrow.Fn.Kinds.{Dens}
use Rattle.build_card.proofs.build.Kinds as build_kinds
use Rattle.build_card.proofs.build.Reads as build_reads
use Rattle.build_card.proofs.build.Statement as build
use Rattle.build_card.proofs.build.Met as build_met
use Rattle.card_reader.proofs.admit.Kinds as admit_kinds
use Rattle.card_reader.proofs.admit.Reads as admit_reads
use Rattle.card_reader.proofs.admit.Statement as admit
use Rattle.card_reader.proofs.admit.Met as admit_met
use Rattle.card_reader.proofs.fetch_entry.Kinds as entry_kinds
use Rattle.card_reader.proofs.fetch_entry.Reads as entry_reads
use Rattle.card_reader.proofs.fetch_entry.Statement as entry
use Rattle.card_reader.proofs.fetch_entry.Met as entry_met
use Rattle.card_reader.proofs.Head.step.Kinds as step_kinds
use Rattle.card_reader.proofs.Head.step.Reads as step_reads
use Rattle.card_reader.proofs.Head.step.Statement as step
use Rattle.card_reader.proofs.Head.step.Met as step_met
use Rattle.card_reader.proofs.listing.admit_into.Kinds as lists_kinds
use Rattle.card_reader.proofs.listing.admit_into.Reads as lists_reads
use Rattle.card_reader.proofs.listing.admit_into.Statement as lists
use Rattle.card_reader.proofs.listing.admit_into.Met as lists_met
use Rattle.card_lists.proofs.lists_hold.Kinds as hold_kinds
use Rattle.card_lists.proofs.lists_hold.Reads as hold_reads
use Rattle.card_lists.proofs.lists_hold.Statement as hold
use Rattle.card_lists.proofs.lists_hold.Met as hold_met
use Rattle.card_writer.proofs.write.Kinds as write_kinds
use Rattle.card_writer.proofs.write.Reads as write_reads
use Rattle.card_writer.proofs.write.Statement as write
use Rattle.card_writer.proofs.write.Met as write_met
use Rattle.card_block.proofs.fetch.Kinds as fetch_kinds
use Rattle.card_block.proofs.fetch.Reads as fetch_reads
use Rattle.card_block.proofs.fetch.Statement as fetch
use Rattle.card_block.proofs.fetch.Met as fetch_met
use Rattle.card_block.proofs.companion.Kinds as companion_kinds
use Rattle.card_block.proofs.companion.Reads as companion_reads
use Rattle.card_block.proofs.companion.Statement as companion
use Rattle.card_block.proofs.companion.Met as companion_met
use Rattle.base_letters.proofs.code_of.Kinds as code_kinds
use Rattle.base_letters.proofs.code_of.Reads as code_Reads
use Rattle.base_letters.proofs.code_of.Statement as code
use Rattle.base_letters.proofs.code_of.Met as code_met
use Rattle.base_letters.proofs.is_letter.Kinds as letter_kinds
use Rattle.base_letters.proofs.is_letter.Reads as letter_reads
use Rattle.base_letters.proofs.is_letter.Statement as letter
use Rattle.base_letters.proofs.is_letter.Met as letter_met

-- ---- build

pub build_asks_nothing : (κs : Lfts 2) (a : Dens κs build_kinds.ps) → build_reads.Pre κs a
build_asks_nothing κs a = tt

pub build_ends : {M : Type 1} → build.statement M
build_ends = build_met.met

-- ---- the reader: admitting, entry fetch, a step of the reading head, lent lists

pub admit_asks_nothing : (κs : Lfts 1) (a : Dens κs admit_kinds.ps) → admit_reads.Pre κs a
admit_asks_nothing κs a = tt

pub admit_ends : {M : Type 1} → admit.statement M
admit_ends = admit_met.met

pub entry_asks_nothing : (κs : Lfts 1) (a : Dens κs entry_kinds.ps) → entry_reads.Pre κs a
entry_asks_nothing κs a = tt

pub entry_ends : {M : Type 1} → entry.statement M
entry_ends = entry_met.met

pub step_asks_nothing : (κs : Lfts 1) (a : Dens κs step_kinds.ps) → step_reads.Pre κs a
step_asks_nothing κs a = tt

pub step_ends : {M : Type 1} → step.statement M
step_ends = step_met.met

pub lists_ask_nothing : (κs : Lfts 4) (a : Dens κs lists_kinds.ps) → lists_reads.Pre κs a
lists_ask_nothing κs a = tt

pub lists_end : {M : Type 1} → lists.statement M
lists_end = lists_met.met

-- ---- the tests of lists, and the writer

pub hold_asks_nothing : (κs : Lfts 3) (a : Dens κs hold_kinds.ps) → hold_reads.Pre κs a
hold_asks_nothing κs a = tt

pub hold_ends : {M : Type 1} → hold.statement M
hold_ends = hold_met.met

pub write_asks_nothing : (κs : Lfts 4) (a : Dens κs write_kinds.ps) → write_reads.Pre κs a
write_asks_nothing κs a = tt

pub write_ends : {M : Type 1} → write.statement M
write_ends = write_met.met

-- ---- the block layer

pub fetch_asks_nothing : (κs : Lfts 1) (a : Dens κs fetch_kinds.ps) → fetch_reads.Pre κs a
fetch_asks_nothing κs a = tt

pub fetch_ends : {M : Type 1} → fetch.statement M
fetch_ends = fetch_met.met

pub companion_asks_nothing : (κs : Lfts 1) (a : Dens κs companion_kinds.ps) → companion_reads.Pre κs a
companion_asks_nothing κs a = tt

pub companion_ends : {M : Type 1} → companion.statement M
companion_ends = companion_met.met

-- ---- letters

pub code_asks_nothing : (κs : Lfts 0) (a : Dens κs code_kinds.ps) → code_Reads.Pre κs a
code_asks_nothing κs a = tt

pub code_ends : {M : Type 1} → code.statement M
code_ends = code_met.met

pub letter_asks_nothing : (κs : Lfts 0) (a : Dens κs letter_kinds.ps) → letter_reads.Pre κs a
letter_asks_nothing κs a = tt

pub letter_ends : {M : Type 1} → letter.statement M
letter_ends = letter_met.met
