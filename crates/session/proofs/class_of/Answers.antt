-- The class by the answers that are found on the line and among the bytes kept.
-- Assumes nothing.
use Rattle.std.proofs.Common.{◌≡◌, ◌&&◌, arith, sym, ◌∙◌, take, drop}
use lib.ListN.{length-take, length-drop}
use Rattle.rules.specs.Judging.{may_repeat}
use Rattle.session.specs.Entry.{record_of, held_in}
use Rattle.session.proofs.StepLaws.{call_long, class_error, asked_points, asked_marked, class_told}
use Rattle.session.proofs.class_of.Goals.{then-has_points, else-has_points, then-claims_duplicate, else-claims_duplicate}
use Rattle.session.proofs.class_of.Goals as goal

pub is_held-repeats-requires : goal.is_held-repeats-requires
is_held-repeats-requires c =
    let s = c.requires in
    let part = drop 0 c.args.entry.now in
    let long = call_long c.args.line.now c.args.c s.alone in
    let size = length-take 14 part in
    (omega (arith, s.wide, s.long, size, length-drop 0 c.args.entry.now), omega (arith, c.last_four-last.ensures, long.1, s.long, size, length-drop 0 c.args.entry.now))

pub returns-then-c : goal.returns-then-c
returns-then-c c =
    let a = c.args in
    class_error a.line.now a.c a.entry.now a.kept.bytes.now a.kept.width a.kept.n c.requires c.if-c.true c.class_by.ensures

pub returns : goal.returns
returns c =
    let a = c.args in
    let s = c.requires in
    let asked : c.if-has_points.value ≡ may_repeat (record_of a.line.now) =
    elim c.if-has_points.branch [
      | then-has_points w ↦ w.value-is ∙ asked_points a.line.now a.c a.entry.now a.kept.bytes.now a.kept.width a.kept.n s c.if-c.false w.if-has_points.true
      | else-has_points w ↦ w.value-is ∙ asked_marked a.line.now a.c a.entry.now a.kept.bytes.now a.kept.width a.kept.n s c.if-c.false w.if-has_points.false w.claims_duplicate.ensures
    ] in
    let found : c.if-claims_duplicate.repeats ≡ (c.if-has_points.value && held_in a.kept.bytes.now a.kept.width a.kept.n 0 (take 14 (drop 0 a.entry.now))) =
    elim c.if-claims_duplicate.branch [
      | then-claims_duplicate w ↦ rw w.if-claims_duplicate.true (w.repeats-is ∙ w.is_held-repeats.ensures)
      | else-claims_duplicate w ↦ rw w.if-claims_duplicate.false (w.repeats-is ∙ w.if-claims_duplicate.false)
    ] in
    class_told a.line.now a.c a.entry.now a.kept.bytes.now a.kept.width a.kept.n s c.if-c.false
    (rw (sym asked) found) c.class_by-2.ensures
