-- `writer::show` meets its contract: what is shown of the judge's answer is what the desk program shows of the log.
-- Assumes nothing.
use borrow.Author.Rules.{rules}
use Rattle.rules.specs.Rules.{base}
use Rattle.writer.proofs.ShownLaws.{desk_totals, desk_refusal, all_shown}
use Rattle.writer.proofs.show.Statement.{statement}
use Rattle.writer.proofs.show.Tie as tie

-- The places of the code, each by the one before it.
abbrev begun : tie.After-judge → tie.Start
begun c = c.before.before.before

abbrev totalled : tie.After-show_totals → tie.After-judge
totalled c = c.before.before.before.before

abbrev refused : tie.After-show_refusal → tie.After-judge
refused c = c.before.before.before.before

slice_aggregate_judge : tie.Need-slice_bounds-judge-end
slice_aggregate_judge c = search rules

judge_requires : tie.Need-judge-requires
judge_requires c κs = search rules

enum_known_t : tie.Need-enum_known-t
enum_known_t c = search rules

show_totals_requires : tie.Need-show_totals-requires
show_totals_requires c κs = search rules

enum_known_r : tie.Need-enum_known-r
enum_known_r c = search rules

show_refusal_requires : tie.Need-show_refusal-requires
show_refusal_requires c κs = search rules

returns : tie.Need-returns-in-Ok
unfolding base
returns c =
    let j = totalled c in
    all_shown c.show_totals.ensures (desk_totals base (begun j).args.log.now j.judge.ensures.0 _ c.in-Ok.is)

returns_2 : tie.Need-returns-in-Err
unfolding base
returns_2 c =
    let j = refused c in
    all_shown c.show_refusal.ensures (desk_refusal base (begun j).args.log.now j.judge.ensures.0 _ c.in-Err.is)

pub show_spec : {M : Type 1} → statement M
show_spec =
    tie.close
    (tie.spec
    slice_aggregate_judge
    judge_requires
    enum_known_t
    show_totals_requires
    enum_known_r
    show_refusal_requires
    returns
    returns_2)
