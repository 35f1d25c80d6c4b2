-- A line in front of the records, or a record.
use mathlib.Core.Path.{ap, ◌∙◌}
use borrow.Author.Rules.{rules}
use Rattle.rules.specs.Rules.{base}
use Rattle.link.specs.Link.{Holding}
use Rattle.link.proofs.TakenLaws.{some_left, finished_head, finished_record}
use Rattle.link.proofs.finished.Statement.{statement}
use Rattle.link.proofs.finished.Tie as tie

-- Where a record is due.
abbrev start : tie.Else-s-lt-RECORDS → tie.Start
start c = c.before.before.before.before.before

head_line_requires : tie.Need-head_line-requires
head_line_requires c κs = search rules

returns : tie.Need-returns-then-s-lt-RECORDS
returns c =
    let a = c.args in
    let same = finished_head base a.s a.line.now a.verdicts.now a.worked.now c.if-s-lt-RECORDS.true in
    (c.head_line.ensures ∙ ap (λ (h : Holding). h.link) same, (ap (λ (h : Holding). h.verdicts) same, ap (λ (h : Holding). h.worked) same))

record_line_requires : tie.Need-record_line-requires
record_line_requires c κs = let k = c.before.before in let s = start k in (s.requires.0, some_left s.args.s k.if-s-lt-RECORDS.false s.requires.1)

same_length : tie.Need-shape_of-verdicts
same_length c = search rules

same_length_2 : tie.Need-shape_of-worked
same_length_2 c = search rules

returns_2 : tie.Need-returns
returns_2 c =
    let k = c.before.before.before.before.before.before.before in
    let a = (start k).args in
    let r = c.record_line in
    let same = finished_record base a.s a.line.now a.verdicts.now a.worked.now k.if-s-lt-RECORDS.false in
    (r.ensures.0 ∙ ap (λ (h : Holding). h.link) same, (r.ensures.1.0 ∙ ap (λ (h : Holding). h.verdicts) same, r.ensures.1.1 ∙ ap (λ (h : Holding). h.worked) same))

pub finished_spec : {M : Type 1} → statement M
finished_spec =
    tie.close
    (tie.spec head_line_requires returns record_line_requires same_length same_length_2 returns_2)
