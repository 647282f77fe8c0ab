-- `card_lists::lists_hold` meets its contract: each return is one law of `lists_tests`, from what the tests before it say. Assumes nothing.
use mathlib.Core.Path.{sym, ◌∙◌}
use Rattle.card_lists.proofs.Laws.{kind_wrong, length_wrong, lists_wrong, count_wrong, lists_go_on}
use Rattle.card_lists.proofs.lists_hold.Goals as goal

pub returns-then-not-is_kind : goal.returns-then-not-is_kind
returns-then-not-is_kind c = sym (kind_wrong _ _ _ _ _ _ (sym c.is_kind.ensures ∙ c.if-not-is_kind.true))

pub returns-then-not-is_length : goal.returns-then-not-is_length
returns-then-not-is_length c =
    let kind = sym c.is_kind.ensures ∙ c.if-not-is_kind.false in
    sym (length_wrong _ _ _ _ _ _ kind (sym c.is_length.ensures ∙ c.if-not-is_length.true))

pub returns-then-not-same_length : goal.returns-then-not-same_length
returns-then-not-same_length c =
    let kind = sym c.is_kind.ensures ∙ c.if-not-is_kind.false in
    let letters = sym c.is_length.ensures ∙ c.if-not-is_length.false in
    sym (lists_wrong _ _ _ _ _ _ kind letters (sym c.same_length.ensures ∙ c.if-not-same_length.true))

pub returns-then-not-is_count : goal.returns-then-not-is_count
returns-then-not-is_count c =
    let kind = sym c.is_kind.ensures ∙ c.if-not-is_kind.false in
    let letters = sym c.is_length.ensures ∙ c.if-not-is_length.false in
    let lists = sym c.same_length.ensures ∙ c.if-not-same_length.false in
    sym (count_wrong _ _ _ _ _ _ kind letters lists (sym c.is_count.ensures ∙ c.if-not-is_count.true))

pub returns : goal.returns
returns c =
    let kind = sym c.is_kind.ensures ∙ c.if-not-is_kind.false in
    let letters = sym c.is_length.ensures ∙ c.if-not-is_length.false in
    let lists = sym c.same_length.ensures ∙ c.if-not-same_length.false in
    let count = sym c.is_count.ensures ∙ c.if-not-is_count.false in
    c.entries_hold.ensures ∙ lists_go_on _ _ _ _ _ _ kind letters lists count
