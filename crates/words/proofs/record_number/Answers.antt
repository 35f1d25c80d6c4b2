-- A record's number is read from 0 on, since the reader of N is; 0 names none.
use mathlib.Core.Logic.{◌⊎◌}
use Rattle.std.proofs.Common.{rules, ◌<◌, ◌≤◌, sym, ◌∙◌}
use Rattle.rules.specs.Rules.{base}
use Rattle.words.proofs.NumberLaws.{whole_none, whole_more, whole_read, whole_value, named_none, named_beyond, named_within}
use Rattle.words.proofs.record_number.Goals as goal

pub returns-in_default : goal.returns-in_default
returns-in_default c = named_none base _ _ (whole_none 0 base.most_records _ (sym c.record_count.ensures ∙ c.in_default.is))

pub returns-then-end-t : goal.returns-then-end-t
returns-then-end-t c = named_none base _ _ (whole_more 0 base.most_records _ (sym c.record_count.ensures ∙ c.in-Some.is) c.if-end-t.true)

pub returns-then-not-contains : goal.returns-then-not-contains
returns-then-not-contains c =
    let read = sym c.record_count.ensures ∙ c.in-Some.is in
    let whole = c.if-end-t.false in
    let out : (c.in-Some.n < 1) ⊎ (c.args.room < c.in-Some.n) = search rules in
    named_beyond base _ _ (whole_read 0 base.most_records _ read whole) (whole_value 0 base.most_records _ read whole) out

pub returns : goal.returns
returns c =
    let read = sym c.record_count.ensures ∙ c.in-Some.is in
    let whole = c.if-end-t.false in
    let low : 1 ≤ c.in-Some.n = search rules in
    let high : c.in-Some.n ≤ c.args.room = search rules in
    named_within base _ _ (whole_read 0 base.most_records _ read whole) (whole_value 0 base.most_records _ read whole) low high
