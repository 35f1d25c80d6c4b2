-- A word that is no keyword may be a number, read as a whole.
use Rattle.std.proofs.Common.{sym, ◌∙◌}
use Rattle.rules.specs.Arguments.{count}
use Rattle.rules.specs.Rules.{base}
use Rattle.words.proofs.KeywordLaws.{named_keyword, named_count, named_nothing}
use Rattle.words.proofs.NumberLaws.{whole_none, whole_more, whole_read, whole_value}
use Rattle.words.proofs.keyword.Goals as goal

pub returns-in-Some : goal.returns-in-Some
returns-in-Some c = named_keyword base _ (sym c.in-Some.is ∙ c.keyword_number.ensures)

pub returns-in_default-count_of : goal.returns-in_default-count_of
unfolding count
returns-in_default-count_of c =
    named_nothing base _ (sym c.in_default.is ∙ c.keyword_number.ensures) (whole_none 0 base.most_count _ (sym c.count_of.ensures ∙ c.in_default-count_of.is))

pub returns-then-end-word : goal.returns-then-end-word
unfolding count
returns-then-end-word c =
    named_nothing base _ (sym c.in_default.is ∙ c.keyword_number.ensures)
    (whole_more 0 base.most_count _ (sym c.count_of.ensures ∙ c.in-Some-count_of.is) c.if-end-word.true)

pub returns : goal.returns
unfolding count
returns c =
    let read = sym c.count_of.ensures ∙ c.in-Some-count_of.is in
    let whole = c.if-end-word.false in
    named_count base _ (sym c.in_default.is ∙ c.keyword_number.ensures) (whole_read 0 base.most_count _ read whole) (whole_value 0 base.most_count _ read whole)
