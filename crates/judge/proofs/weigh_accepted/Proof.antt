-- An accepted log is walked over where the slice has room, and its totals are closed with what it declares.
use mathlib.Core.Path.{refl, ap, ◌∙◌}
use Rattle.std.specs.Prelude.{Err}
use borrow.Author.Rules.{rules}
use Rattle.judge.proofs.JudgeLaws.{closable, done, kept_short, refused_short, weighable, written_done}
use Rattle.judge.proofs.weigh_accepted.Statement.{statement}
use Rattle.judge.proofs.weigh_accepted.Tie as tie

-- The places of the code: where it begins, from where the slices and what was read are known; where there is room, from where the records are
-- walked over; and where they were, from where the declared is known.
abbrev start : tie.After-struct_known-1 → tie.Start
start c = c.before.before.before.before.before.before.before

abbrev room : tie.After-modes-1 → tie.Else-verdicts-read
room c = c.before.before.before.before

abbrev modes_back : tie.After-declared_at → tie.After-exchanges-1
modes_back c = c.before.before.before

abbrev walked : tie.After-declared_at → tie.After-walk_records-sums
walked c = (modes_back c).before.before.before.before.before

refused_requires : tie.Need-refused-requires
refused_requires c κs = search rules

returns : tie.Need-returns-then-verdicts-read
returns c =
    let short = c.before in
    let pre = (start short.before).requires in
    let slice = (start short.before).args.verdicts.now in
    (ap Err c.refused.ensures ∙ refused_short pre.0 slice short.if-verdicts-read.true, kept_short pre.0 slice short.if-verdicts-read.true)

walk_records_requires : tie.Need-walk_records-sums-requires
walk_records_requires c κs =
    let pre = (start (room c).before).requires in
    (weighable pre.0 (room c).if-verdicts-read.false pre.1, refl)

declared_at_requires : tie.Need-declared_at-requires
declared_at_requires c κs = search rules

closed_requires : tie.Need-closed-totals-requires
closed_requires c κs = closable _ (walked c).walk_records-sums.ensures c.declared_at.ensures

same_length : tie.Need-shape_of-verdicts
same_length c = search rules

same_length_2 : tie.Need-shape_of-calls
same_length_2 c = search rules

same_length_3 : tie.Need-shape_of-exchanges
same_length_3 c = search rules

returns_2 : tie.Need-returns
returns_2 c =
    let weighed = (walked c.before.before).walk_records-sums.ensures in
    let enough = room (walked c.before.before).before in
    let begun = start enough.before in
    let slice = begun.args.verdicts.now in
    (done begun.requires.0 slice enough.if-verdicts-read.false weighed c.declared_at.ensures c.closed-totals.ensures, written_done begun.requires.0 slice enough.if-verdicts-read.false weighed)

pub weigh_accepted_spec : {M : Type 1} → statement M
weigh_accepted_spec =
    tie.close
    (tie.spec
    refused_requires
    returns
    walk_records_requires
    declared_at_requires
    closed_requires
    same_length
    same_length_2
    same_length_3
    returns_2)
