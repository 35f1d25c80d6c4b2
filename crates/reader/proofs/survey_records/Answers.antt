-- The records are read one after the other, and a place of each is noted in each list.
use Rattle.std.proofs.Common.{◌<◌, ◌≤◌, arith, sym, ap, ◌∙◌}
use Rattle.std.specs.Prelude.{Err}
use Rattle.rules.specs.Rules.{base}
use Rattle.reader.proofs.HeadLaws.{log_small}
use Rattle.reader.proofs.NotedLaws.{Placed, fills_end, fills_first, fills_next, fills_stop, placed, surveys_end, surveys_first, surveys_more, surveys_next, surveys_stop}
use Rattle.reader.proofs.survey_records.Goals as goal

pub loop-i-init : goal.loop-i-init
loop-i-init c =
    let p = c.requires in
    record {
      read = surveys_first base _ _ _ _ p.0 p.1 p.2;
      calls = fills_first base _ _ _ _ _;
      exchanges = fills_first base _ _ _ _ _;
      points = fills_first base _ _ _ _ _;
      pointsends = fills_first base _ _ _ _ _;
      ends = fills_first base _ _ _ _ _;
    }

pub returns-in-Err : goal.returns-in-Err
returns-in-Err c =
    let w = c.loop-i.invariant in
    let h : c.loop-i.i < c.args.records = omega arith in
    let e = sym c.in-Err.ensures in
    record {
      answer = ap Err c.at.ensures ∙ surveys_stop base _ _ _ _ w.read h e;
      calls = fills_stop base _ _ _ _ _ w.calls h e;
      exchanges = fills_stop base _ _ _ _ _ w.exchanges h e;
      points = fills_stop base _ _ _ _ _ w.points h e;
      pointsends = fills_stop base _ _ _ _ _ w.pointsends h e;
      ends = fills_stop base _ _ _ _ _ w.ends h e;
    }

pub note-requires : goal.note-requires
note-requires c =
    let p : Placed c.args.log.now c.loop-i.at c.in-Ok.c = placed base _ _ (sym c.in-Ok.ensures) in
    omega (arith, p.call, p.within, c.loop-i.invariant.read.short)

pub note-requires-in-Ok : goal.note-requires-in-Ok
note-requires-in-Ok c =
    let p : Placed c.args.log.now c.loop-i.at c.in-Ok.c = placed base _ _ (sym c.in-Ok.ensures) in
    omega (arith, p.exchange, p.within, c.loop-i.invariant.read.short)

pub note-requires-in-Ok-2 : goal.note-requires-in-Ok-2
note-requires-in-Ok-2 c =
    let p : Placed c.args.log.now c.loop-i.at c.in-Ok.c = placed base _ _ (sym c.in-Ok.ensures) in
    omega (arith, p.points, p.within, c.loop-i.invariant.read.short)

pub note-requires-in-Ok-3 : goal.note-requires-in-Ok-3
note-requires-in-Ok-3 c =
    let p : Placed c.args.log.now c.loop-i.at c.in-Ok.c = placed base _ _ (sym c.in-Ok.ensures) in
    omega (arith, p.pointsend, p.within, c.loop-i.invariant.read.short)

pub note-requires-in-Ok-4 : goal.note-requires-in-Ok-4
note-requires-in-Ok-4 c =
    let p : Placed c.args.log.now c.loop-i.at c.in-Ok.c = placed base _ _ (sym c.in-Ok.ensures) in
    omega (arith, p.within, c.loop-i.invariant.read.short)

pub overflow_add-at : goal.overflow_add-at
overflow_add-at c =
    let p : Placed c.args.log.now c.loop-i.at c.in-Ok.c = placed base _ _ (sym c.in-Ok.ensures) in
    omega (arith, p.within, c.loop-i.invariant.read.short, log_small)

pub overflow_add-line : goal.overflow_add-line
overflow_add-line c =
    let w = c.loop-i.invariant.read in
    omega (arith, w.within, w.short, w.number, log_small)

pub loop-i-preserved : goal.loop-i-preserved
loop-i-preserved c =
    let w = c.loop-i.invariant in
    let h : c.loop-i.i < c.args.records = omega arith in
    let e = sym c.in-Ok.ensures in
    record {
      read = surveys_next base _ _ _ _ w.read h e;
      calls = fills_next base _ _ _ _ _ w.calls h e c.note.ensures;
      exchanges = fills_next base _ _ _ _ _ w.exchanges h e c.note-in-Ok.ensures;
      points = fills_next base _ _ _ _ _ w.points h e c.note-in-Ok-2.ensures;
      pointsends = fills_next base _ _ _ _ _ w.pointsends h e c.note-in-Ok-3.ensures;
      ends = fills_next base _ _ _ _ _ w.ends h e c.note-in-Ok-4.ensures;
    }

pub returns-then-at-log : goal.returns-then-at-log
returns-then-at-log c =
    let w = c.loop-i.invariant in
    let h : c.args.records ≤ c.loop-i.i = omega arith in
    record {
      answer = ap Err c.refused_at.ensures ∙ surveys_more base _ _ _ _ w.read h c.if-at-log.true;
      calls = fills_end base _ _ _ _ _ w.calls h;
      exchanges = fills_end base _ _ _ _ _ w.exchanges h;
      points = fills_end base _ _ _ _ _ w.points h;
      pointsends = fills_end base _ _ _ _ _ w.pointsends h;
      ends = fills_end base _ _ _ _ _ w.ends h;
    }

pub returns : goal.returns
returns c =
    let w = c.loop-i.invariant in
    let h : c.args.records ≤ c.loop-i.i = omega arith in
    record {
      answer = surveys_end base _ _ _ _ w.read h c.if-at-log.false;
      calls = fills_end base _ _ _ _ _ w.calls h;
      exchanges = fills_end base _ _ _ _ _ w.exchanges h;
      points = fills_end base _ _ _ _ _ w.points h;
      pointsends = fills_end base _ _ _ _ _ w.pointsends h;
      ends = fills_end base _ _ _ _ _ w.ends h;
    }
