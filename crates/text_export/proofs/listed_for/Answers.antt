-- `listed_for` meets its contract. Assumes nothing.
use native.Mathlib.Omega.{arith}
use Rattle.text_export.proofs.PutLaws.{listed_so, few_so}
use Rattle.text_export.proofs.listed_for.Goals as goal

pub overflow_add-result : goal.overflow_add-result
overflow_add-result c = omega (arith, few_so _ _ c.entry_of.ensures c.in-One.is c.requires)

pub overflow_add-result-in-Two : goal.overflow_add-result-in-Two
overflow_add-result-in-Two c = omega (arith, (few_so _ _ c.entry_of.ensures c.in-Two.is c.requires).0)

pub overflow_add-result-in-Two-2 : goal.overflow_add-result-in-Two-2
overflow_add-result-in-Two-2 c = omega (arith, (few_so _ _ c.entry_of.ensures c.in-Two.is c.requires).1)

pub overflow_add-result-in-Span : goal.overflow_add-result-in-Span
overflow_add-result-in-Span c = omega (arith, (few_so _ _ c.entry_of.ensures c.in-Span.is c.requires).0)

pub overflow_add-result-in-Span-2 : goal.overflow_add-result-in-Span-2
overflow_add-result-in-Span-2 c = omega (arith, (few_so _ _ c.entry_of.ensures c.in-Span.is c.requires).1)

pub returns-in-One : goal.returns-in-One
returns-in-One c = listed_so _ _ c.entry_of.ensures c.in-One.is

pub returns-in-Two : goal.returns-in-Two
returns-in-Two c = listed_so _ _ c.entry_of.ensures c.in-Two.is

pub returns-in-Span : goal.returns-in-Span
returns-in-Span c = listed_so _ _ c.entry_of.ensures c.in-Span.is
