-- What the end of the bytes means where this is due.
use Prim.Native.Nat.{◌≤◌}
use mathlib.Core.Path.{sym, ◌∙◌}
use mathlib.Core.Bool.{true, false}
use borrow.Author.Rules.{rules}
use Rattle.link.proofs.StateLaws.{rests_early, rests_due, rests_more, rests_whole}
use Rattle.link.proofs.rested.Statement.{statement}
use Rattle.link.proofs.rested.Tie as tie

-- Behind the count line.
abbrev start : tie.Else-s-lt-RECORDS → tie.Start
start c = c.before.before

late : (c : tie.Else-s-lt-RECORDS) → 39 ≤ (start c).args.s.stage
late c = c.if-s-lt-RECORDS.false

stopped_here_requires : tie.Need-stopped_here-requires
stopped_here_requires c κs = search rules

returns : tie.Need-returns-then-s-lt-RECORDS
returns c = c.stopped_here.ensures ∙ rests_early c.args.s c.if-s-lt-RECORDS.true

has_rest_requires : tie.Need-has_rest-requires
has_rest_requires c κs = search rules

stopped_here_requires_2 : tie.Need-stopped_here-requires-then-has_rest
stopped_here_requires_2 c κs = search rules

returns_2 : tie.Need-returns-then-has_rest
returns_2 c =
    let k = c.before.before in
    c.stopped_here-then-has_rest.ensures
    ∙ rests_due (start k.before.before.before).args.s (late k.before.before.before) k.if-s.true true (sym k.has_rest.ensures ∙ c.if-has_rest.true)

stopped_here_requires_3 : tie.Need-stopped_here-requires-then-s
stopped_here_requires_3 c κs = search rules

returns_3 : tie.Need-returns-then-s
returns_3 c =
    let k = c.before.before in
    c.stopped_here-then-s.ensures
    ∙ rests_due (start k.before.before.before).args.s (late k.before.before.before) k.if-s.true false (sym k.has_rest.ensures ∙ c.if-has_rest.false)

has_rest_requires_2 : tie.Need-has_rest-requires-2
has_rest_requires_2 c κs = search rules

stopped_here_requires_4 : tie.Need-stopped_here-requires-then-has_rest-2
stopped_here_requires_4 c κs = search rules

returns_4 : tie.Need-returns-then-has_rest-2
returns_4 c =
    let k = c.before.before in
    c.stopped_here-then-has_rest-2.ensures
    ∙ rests_more (start k.before.before.before).args.s (late k.before.before.before) k.if-s.false (sym k.has_rest-2.ensures ∙ c.if-has_rest-2.true)

returns_5 : tie.Need-returns
returns_5 c =
    let k = c.before in
    rests_whole (start k.before.before.before).args.s (late k.before.before.before) k.if-s.false (sym k.has_rest-2.ensures ∙ c.if-has_rest-2.false)

pub rested_spec : {M : Type 1} → statement M
rested_spec =
    tie.close
    (tie.spec
    stopped_here_requires
    returns
    has_rest_requires
    stopped_here_requires_2
    returns_2
    stopped_here_requires_3
    returns_3
    has_rest_requires_2
    stopped_here_requires_4
    returns_4
    returns_5)
