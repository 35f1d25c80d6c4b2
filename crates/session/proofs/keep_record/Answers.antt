-- The record is judged by what is kept of those before it, and what is then written is what the definition says.
-- Assumes nothing.
use Rattle.std.proofs.Common.{arith}
use lib.ListN.{length-take}
use Rattle.session.proofs.StepLaws.{place_for, stepping, bytes_long, record_kept}
use Rattle.session.proofs.keep_record.Goals as goal

pub invariant_of-before : goal.invariant_of-before
invariant_of-before c =
    let place = place_for c.args.n c.args.width _ _ c.requires.1 in
    record { there = omega (arith, place.bytes) }

pub verdict_of-v-requires : goal.verdict_of-v-requires
verdict_of-v-requires c =
    let a = c.args in
    stepping a.line.now a.c c.requires.0 a.n a.width a.verdicts.now a.kept.now c.requires.1 c.entry_of-entry.ensures

pub bounds-verdicts-n : goal.bounds-verdicts-n
bounds-verdicts-n c = (place_for c.args.n c.args.width _ _ c.requires.1).verdict

pub slice_bounds-bytes-end : goal.slice_bounds-bytes-end
slice_bounds-bytes-end c =
    let a = c.args in
    let place = place_for a.n a.width _ _ c.requires.1 in
    let long = bytes_long a.line.now a.c c.requires.0 a.n a.width a.verdicts.now a.kept.now c.requires.1 c.entry_of-entry.ensures c.verdict_of-v.ensures c.verdict_number-number.ensures c.kept_of-bytes.ensures in
    omega (arith, long, place.narrow)

pub slice_bounds-put_text-end : goal.slice_bounds-put_text-end
slice_bounds-put_text-end c =
    let a = c.args in
    let place = place_for a.n a.width _ _ c.requires.1 in
    let long = bytes_long a.line.now a.c c.requires.0 a.n a.width a.verdicts.now a.kept.now c.requires.1 c.entry_of-entry.ensures c.verdict_of-v.ensures c.verdict_number-number.ensures c.kept_of-bytes.ensures in
    omega (arith, long, place.narrow, length-take a.width c.kept_of-bytes.result)

pub returns-clause-answer : goal.returns-clause-answer
returns-clause-answer c =
    let a = c.args in
    (record_kept a.line.now a.c c.requires.0 a.n a.width a.verdicts.now a.kept.now c.requires.1 c.entry_of-entry.ensures c.verdict_of-v.ensures c.verdict_number-number.ensures c.kept_of-bytes.ensures c.mode_byte.ensures c.put_text.ensures.slice).0

pub returns-clause-verdicts : goal.returns-clause-verdicts
returns-clause-verdicts c =
    let a = c.args in
    (record_kept a.line.now a.c c.requires.0 a.n a.width a.verdicts.now a.kept.now c.requires.1 c.entry_of-entry.ensures c.verdict_of-v.ensures c.verdict_number-number.ensures c.kept_of-bytes.ensures c.mode_byte.ensures c.put_text.ensures.slice).1.0

pub returns-clause-kept : goal.returns-clause-kept
returns-clause-kept c =
    let a = c.args in
    (record_kept a.line.now a.c c.requires.0 a.n a.width a.verdicts.now a.kept.now c.requires.1 c.entry_of-entry.ensures c.verdict_of-v.ensures c.verdict_number-number.ensures c.kept_of-bytes.ensures c.mode_byte.ensures c.put_text.ensures.slice).1.1
