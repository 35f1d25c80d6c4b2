-- The lines up to the count line are read one after the other, and what is told of the rest is told of the whole.
use borrow.Author.Rules.{rules}
use native.Mathlib.Omega.{arith}
use Prim.Native.Nat.{◌+◌, ◌-◌, ◌≤◌, ◌<◌}
use mathlib.Core.Bool.{true}
use mathlib.Core.Path.{◌≡◌, refl, sym, ap, ◌∙◌}
use lib.ListN.{drop, length, take}
use Rattle.reader.specs.Line.{line_at}
use Rattle.reader.specs.Read.{early, head_of, no_heading}
use Rattle.std.specs.Prelude.{Some, Ok, Err}
use Rattle.rules.specs.Reading.{step}
use Rattle.rules.specs.Rules.{base}
use Rattle.rules.specs.Text.{Text}
use Rattle.reader.proofs.HeadLaws.{head_ends, head_goes_on, head_missing, head_refuses, head_starts, head_too_long, head_at, heading_next, log_small, still_early, stepped_few, stepped_next}
use Rattle.reader.proofs.LineLaws.{Stood, stood}
use Rattle.reader.proofs.read_head.Statement.{statement}
use Rattle.reader.proofs.read_head.Tie as tie

abbrev invariant-loop : tie.invariant-loop-end
invariant-loop log due₀ claims₀ respelt₀ at₀ line₀ due claims respelt at line =
    (at ≤ length log)
    × (length log ≤ base.longest_log)
    × (line ≤ at + 1)
    × (early due ≡ true)
    × (head_of base log ≡ head_at base log due line at (record { claims = claims; respelt = respelt }))
    × (respelt < line)

abbrev decreases-loop : tie.decreases-loop-end
decreases-loop log due₀ claims₀ respelt₀ at₀ line₀ due claims respelt at line = length log - at

-- The places of a turn: its start, behind the line that is found, and behind the step that goes on.
abbrev text : tie.At-loop-end invariant-loop decreases-loop → Text
text l = l.args.log.now

abbrev looped : tie.In-Some invariant-loop decreases-loop → tie.At-loop-end invariant-loop decreases-loop
looped c = c.before.before

abbrev lined : tie.In-Ok invariant-loop decreases-loop → tie.In-Some invariant-loop decreases-loop
lined k = k.before.before.before

line_is : (c : tie.In-Some invariant-loop decreases-loop) → line_at base (text (looped c)) (looped c).loop-end.at ≡ Some c.in-Some.end
line_is c = sym c.line_end.ensures ∙ c.in-Some.is

found : (c : tie.In-Some invariant-loop decreases-loop) → Stood base (text (looped c)) (looped c).loop-end.at c.in-Some.end
found c = stood base _ _ (line_is c)

goes : (k : tie.In-Ok invariant-loop decreases-loop) → step base (looped (lined k)).loop-end.due (take ((lined k).in-Some.end - (looped (lined k)).loop-end.at) (drop (looped (lined k)).loop-end.at (text (looped (lined k))))) ≡ Ok k.in-Ok.next
goes k = stepped_next base _ _ _ k.head_step-stepped.ensures ∙ k.in-Ok.is

longest_log_requires : tie.Need-longest_log-requires invariant-loop decreases-loop
longest_log_requires c κs = search rules

refused_requires : tie.Need-refused-requires invariant-loop decreases-loop
refused_requires c κs = search rules

returns : tie.Need-returns-then-longest_log-log invariant-loop decreases-loop
returns c =
    let long : base.longest_log < length c.args.log.now = omega (arith, c.longest_log.ensures, c.if-longest_log-log.true) in
    ap Err c.refused.ensures ∙ head_too_long base _ long

loop_holds : tie.Need-loop-end-init invariant-loop decreases-loop
unfolding no_heading
loop_holds c =
    let short : length c.args.log.now ≤ base.longest_log = omega (arith, c.longest_log.ensures, c.if-longest_log-log.false) in
    (omega arith, short, omega arith, refl, head_starts base _ short, omega arith)

line_end_requires : tie.Need-line_end-requires invariant-loop decreases-loop
line_end_requires c κs = search rules

enum_known_end : tie.Need-enum_known-end invariant-loop decreases-loop
enum_known_end c = search rules

enum_told : tie.Need-enum_told-1 invariant-loop decreases-loop
enum_told c = search rules

refused_at_requires : tie.Need-refused_at-requires invariant-loop decreases-loop
refused_at_requires c κs = search rules

returns_2 : tie.Need-returns-in_default invariant-loop decreases-loop
returns_2 c = ap Err c.refused_at.ensures ∙ sym (c.loop-end.invariant.4 ∙ head_missing base _ _ _ _ _ (sym c.line_end.ensures ∙ c.in_default.is))

sub_head_step : tie.Need-slice_bounds-head_step-count invariant-loop decreases-loop
sub_head_step c = (found c).behind

part_head_step_start : tie.Need-slice_bounds-head_step-start invariant-loop decreases-loop
part_head_step_start c = (found c).behind

part_head_step_end : tie.Need-slice_bounds-head_step-end invariant-loop decreases-loop
part_head_step_end c = omega (arith, (found c).within)

head_step_requires : tie.Need-head_step-stepped-requires invariant-loop decreases-loop
head_step_requires c κs =
    let l = c.before.before.before in
    (l.loop-end.invariant.3, omega (arith, l.loop-end.invariant.0, l.loop-end.invariant.1, l.loop-end.invariant.2, l.loop-end.invariant.5))

enum_told_3 : tie.Need-enum_told_at-1 invariant-loop decreases-loop
enum_told_3 c = search rules

at_requires : tie.Need-at-requires invariant-loop decreases-loop
at_requires c κs = search rules

returns_3 : tie.Need-returns-in-Err invariant-loop decreases-loop
returns_3 c =
    let k = c.before in
    let d = k.before.before.before in
    ap Err c.at.ensures
    ∙ sym
    ((looped d).loop-end.invariant.4
    ∙ head_refuses base _ _ _ _ _ (line_is d) (stepped_next base _ _ _ k.head_step-stepped.ensures ∙ k.in-Err.is))

enum_told_4 : tie.Need-enum_told_at-in-Ok-1 invariant-loop decreases-loop
enum_told_4 c = search rules

add_at : tie.Need-overflow_add-at invariant-loop decreases-loop
add_at c = let d = lined c in omega (arith, (found d).within, (looped d).loop-end.invariant.1, log_small)

add_line : tie.Need-overflow_add-line invariant-loop decreases-loop
add_line c = let l = looped (lined c) in omega (arith, l.loop-end.invariant.0, l.loop-end.invariant.1, l.loop-end.invariant.2, log_small)

counted_by_requires : tie.Need-counted_by-requires invariant-loop decreases-loop
counted_by_requires c κs = search rules

enum_known_records : tie.Need-enum_known-records invariant-loop decreases-loop
enum_known_records c = search rules

returns_4 : tie.Need-returns-in-Some-counted_by invariant-loop decreases-loop
returns_4 c =
    let k = c.before.before in
    let d = lined k in
    sym ((looped d).loop-end.invariant.4 ∙ head_ends base _ _ _ _ _ (line_is d) (goes k) (sym c.counted_by.ensures ∙ c.in-Some-counted_by.is))

enum_told_2 : tie.Need-enum_told-in_default-counted_by invariant-loop decreases-loop
enum_told_2 c = search rules

claims_by_requires : tie.Need-claims_by-claims-requires invariant-loop decreases-loop
claims_by_requires c κs = search rules

loop_less : tie.Need-loop-end-smaller invariant-loop decreases-loop
loop_less c = let d = lined c.before.before.before in omega (arith, (found d).behind, (found d).within)

loop_again : tie.Need-loop-end-preserved invariant-loop decreases-loop
loop_again c =
    let k = c.before.before.before in
    let d = lined k in
    let l = looped d in
    let further = sym c.counted_by.ensures ∙ c.in_default-counted_by.is in (
      omega (arith, (found d).within),
      l.loop-end.invariant.1,
      omega (arith, (found d).behind, l.loop-end.invariant.2),
      still_early _ further,
      l.loop-end.invariant.4
          ∙ head_goes_on base _ _ _ _ _ (line_is d) (goes k) further
          ∙ ap (head_at base (text l) k.in-Ok.next (l.loop-end.line + 1) (d.in-Some.end + 2)) (heading_next base _ _ _ k.head_step-stepped.ensures l.loop-end.claims (d.in-Some.end + 2) c.claims_by-claims.ensures),
      omega (arith, l.loop-end.invariant.5, stepped_few base _ _ _ k.head_step-stepped.ensures),
    )

pub read_head_spec : {M : Type 1} → statement M
read_head_spec =
    tie.close
    (tie.spec
    invariant-loop
    decreases-loop
    longest_log_requires
    refused_requires
    returns
    loop_holds
    line_end_requires
    enum_known_end
    enum_told
    refused_at_requires
    returns_2
    sub_head_step
    part_head_step_start
    part_head_step_end
    head_step_requires
    enum_told_3
    at_requires
    returns_3
    enum_told_4
    add_at
    add_line
    counted_by_requires
    enum_known_records
    returns_4
    enum_told_2
    claims_by_requires
    loop_less
    loop_again)
