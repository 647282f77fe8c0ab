-- The contract of each report determines the outcome: two answers, with what the buffer holds afterwards, that both meet it at the same input
-- are equal. `Post` is the contract as it is read from the source. Assumes nothing.
use mathlib.Core.Path.{◌≡◌, sym, ap, ◌∙◌}
use mathlib.Core.List.{List}
use Prim.Native.Nat.{ℕ}
use contract.Lifetimes.{Lfts}
use denote.Triple.Clauses.{AtExit}
use borrow.Fn.Kinds.{Dens, res_t, ended_of}
use Rattle.base_answers.specs.Answer.{Answer}
use Rattle.card_layout.specs.Layout.{told_by}
use Rattle.build_sequence.specs.Verdict.{Outcome}
use Rattle.build_card.proofs.Determined.{says_one}
use Rattle.build_narrow.proofs.SettlingLaws.{settled_one}
use Rattle.build_count.proofs.CountingLaws.{counts_one}
use Rattle.base_text.proofs.PrintedLaws.{printed_one}
use Rattle.program_lines.specs.Lines.{lines_of, ReportsBy, Reports}
use Rattle.program_lines.proofs.report.Kinds as report
use Rattle.program_lines.proofs.report.Reads as report_reads
use Rattle.program_lines.proofs.settle.report.Kinds as settle
use Rattle.program_lines.proofs.settle.report.Reads as settle_reads
use Rattle.program_lines.proofs.count.report.Kinds as count
use Rattle.program_lines.proofs.count.report.Reads as count_reads

-- where one answer at most is said of a card, one thing at most is printed for it
pub reported_one : {Says : Answer Outcome → Type 0} → ((a b : Answer Outcome) → Says a → Says b → a ≡ b) → {card xs ys : List ℕ}
    → ReportsBy Says card xs
    → ReportsBy Says card ys
    → xs ≡ ys
reported_one one {card} p q = p.printed ∙ ap (lines_of (told_by card)) (one p.said q.said p.says q.says) ∙ sym q.printed

pub reports_one : {limit : ℕ} {card xs ys : List ℕ} → Reports limit card xs → Reports limit card ys → xs ≡ ys
reports_one p q = reported_one (λ a b. says_one) p q

pub report_one : (κs : Lfts 2) (a : Dens κs report.ps) (r r' : (res_t report.r κs).Denot) (e e' : AtExit (ended_of 2 report.ps report.r) κs)
    → report_reads.Post κs a r e → report_reads.Post κs a r' e' → (r ≡ r') × (e.1.0.now ≡ e'.1.0.now)
report_one κs a r r' e e' p q = printed_one (λ xs ys. reports_one) p q

pub settle_report_one : (κs : Lfts 2) (a : Dens κs settle.ps) (r r' : (res_t settle.r κs).Denot)
    (e e' : AtExit (ended_of 2 settle.ps settle.r) κs)
    → settle_reads.Post κs a r e → settle_reads.Post κs a r' e' → (r ≡ r') × (e.1.0.now ≡ e'.1.0.now)
settle_report_one κs a r r' e e' p q = printed_one (λ xs ys. reported_one (λ x y. settled_one)) p q

pub count_report_one : (κs : Lfts 2) (a : Dens κs count.ps) (r r' : (res_t count.r κs).Denot) (e e' : AtExit (ended_of 2 count.ps count.r) κs)
    → count_reads.Post κs a r e → count_reads.Post κs a r' e' → (r ≡ r') × (e.1.0.now ≡ e'.1.0.now)
count_report_one κs a r r' e e' p q = printed_one (λ xs ys. counts_one) p q
