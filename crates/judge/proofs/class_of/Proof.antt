-- The class by the answers that are found in the log and among the calls kept.
use Prim.Native.Nat.{◌≤◌}
use native.Mathlib.Omega.{arith}
use mathlib.Core.List.{List}
use mathlib.Core.Path.{◌≡◌}
use lib.ListN.{length, get_or}
use borrow.Author.Rules.{rules}
use Rattle.rules.specs.Text.{Text}
use Rattle.fields.specs.Field.{end_of}
use Rattle.fields.proofs.PartLaws.{end_by_span}
use Rattle.judge.specs.Parts.{part_by, kept_texts, Keyed}
use Rattle.judge.specs.Step.{call_noted}
use Rattle.judge.proofs.PartLaws.{part_by_lem, part_keyed}
use Rattle.judge.proofs.StepLaws.{noted_error, noted_points, noted_void, noted_marked}
use Rattle.judge.proofs.class_of.Statement.{statement}
use Rattle.judge.proofs.class_of.Tie as tie

-- The call lies within the log.
from : (c : tie.Start) → c.args.p.call ≤ end_of c.args.s.now c.args.p.call
from c = omega (arith, end_by_span c.args.s.now c.args.p.call)

to : (c : tie.Start) → end_of c.args.s.now c.args.p.call ≤ length c.args.s.now
to c = omega (arith, c.requires.ends, c.requires.within)

-- The texts of the calls that are kept, and what is looked for among them.
abbrev kept : tie.Start → List Text
kept c = kept_texts c.args.s.now c.args.calls.now c.args.keys.now c.args.m

key : (c : tie.Start) → Keyed c.args.s.now c.args.p.call (get_or c.args.keys.now c.args.m 0)
key c = part_keyed c.args.s.now c.args.p.call (end_of c.args.s.now c.args.p.call) (from c) (to c) c.requires.key

sought : (c : tie.Start) →
    part_by c.args.s.now c.args.p.call (get_or c.args.keys.now c.args.m 0) ≡ call_noted c.args.s.now c.args.p
sought c = part_by_lem c.args.s.now c.args.p.call (end_of c.args.s.now c.args.p.call) (from c) (to c) c.requires.key

-- The places: ERROR was asked for; it is none, and the points were looked at; the D was asked for.
abbrev start : tie.After-is_error → tie.Start
start c = c.before.before.before.before

abbrev tested : tie.Else-is_error → tie.After-is_error
tested c = c.before

abbrev with_points : tie.Then-s-points-ne48 → tie.Else-is_error
with_points c = c.before.before

abbrev with_none : tie.After-claims_duplicate → tie.Else-is_error
with_none c = c.before.before.before

is_error_requires : tie.Need-is_error-requires
is_error_requires c κs =
    let begin = c in
    let h = end_by_span begin.args.s.now begin.args.p.call in
    (omega (arith, begin.requires.ends), omega (arith, begin.requires.within))

class_by_requires : tie.Need-class_by-requires
class_by_requires c κs = search rules

returns : tie.Need-returns-then-is_error
returns c =
    let asked = c.before.before in
    let a = (start asked).args in
    noted_error (kept (start asked)) a.s.now a.p (start asked).requires.ends asked.is_error.ensures c.if-is_error.true c.class_by.ensures

shared_slice_read_if2 : tie.Need-bounds-s-points
shared_slice_read_if2 c = search rules

is_kept_requires : tie.Need-is_kept-requires
is_kept_requires c κs = let begin = start (tested (with_points c)) in (begin.requires.lies, key begin)

class_by_requires_2 : tie.Need-class_by-requires-then-s-points-ne48
class_by_requires_2 c κs = search rules

returns_2 : tie.Need-returns-then-s-points-ne48
returns_2 c =
    let looked = c.before in
    let other = with_points looked.before in
    let begin = start (tested other) in
    let a = begin.args in
    noted_points (kept begin) a.s.now a.p begin.requires.ends (tested other).is_error.ensures other.if-is_error.false looked.if-s-points-ne48.true looked.is_kept.ensures (sought begin) c.class_by-then-s-points-ne48.ensures

claims_duplicate_requires : tie.Need-claims_duplicate-requires
claims_duplicate_requires c κs = search rules

class_by_requires_3 : tie.Need-class_by-requires-then-not-claims_duplicate
class_by_requires_3 c κs = search rules

returns_3 : tie.Need-returns-then-not-claims_duplicate
returns_3 c =
    let marked = c.before.before in
    let other = with_none marked in
    let begin = start (tested other) in
    let a = begin.args in
    noted_void (kept begin) a.s.now a.p begin.requires.ends (tested other).is_error.ensures other.if-is_error.false marked.if-s-points-ne48.false marked.claims_duplicate.ensures c.if-not-claims_duplicate.true-raw c.class_by-then-not-claims_duplicate.ensures

is_kept_requires_2 : tie.Need-is_kept-requires-2
is_kept_requires_2 c κs = let begin = start (tested (with_none c.before)) in (begin.requires.lies, key begin)

class_by_requires_4 : tie.Need-class_by-requires-2
class_by_requires_4 c κs = search rules

returns_4 : tie.Need-returns
returns_4 c =
    let looked = c.before in
    let marked = looked.before.before in
    let other = with_none marked in
    let begin = start (tested other) in
    let a = begin.args in
    noted_marked (kept begin) a.s.now a.p begin.requires.ends (tested other).is_error.ensures other.if-is_error.false marked.if-s-points-ne48.false marked.claims_duplicate.ensures looked.if-not-claims_duplicate.false-raw looked.is_kept-2.ensures (sought begin) c.class_by-2.ensures

pub class_of_spec : {M : Type 1} → statement M
class_of_spec =
    tie.close
    (tie.spec
    is_error_requires
    class_by_requires
    returns
    shared_slice_read_if2
    is_kept_requires
    class_by_requires_2
    returns_2
    claims_duplicate_requires
    class_by_requires_3
    returns_3
    is_kept_requires_2
    class_by_requires_4
    returns_4)
