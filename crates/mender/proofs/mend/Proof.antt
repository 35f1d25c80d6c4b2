-- A log that is accepted as it is comes out unchanged, and every other is mended.
-- Assumes nothing.
use borrow.Author.Rules.{rules}
use native.Mathlib.Omega.{arith}
use mathlib.Core.Path.{sym, ◌∙◌}
use Rattle.rules.specs.Rules.{base}
use Rattle.mender.proofs.AnswerLaws.{mend_long, mends_refused, read_accepted, kept_mends}
use Rattle.mender.proofs.mend.Statement.{statement}
use Rattle.mender.proofs.mend.Tie as tie

-- The places of the code: where it begins, and where the log is read as it is.
abbrev begun : tie.After-read → tie.Start
begun k = k.before.before.before.before.before.before.before

longest_log_requires : tie.Need-longest_log-requires
longest_log_requires c κs = search rules

refuse_requires : tie.Need-refuse-requires
refuse_requires c κs = search rules

returns : tie.Need-returns-then-longest_log-log
returns c =
    let b = c in
    let k = mends_refused (mend_long base b.args.log.now _ (omega (arith, c.longest_log.ensures, c.if-longest_log-log.true))) c.refuse.ensures in
    (k.told, (k.text_told, (k.kinds_told, k.lines_told)))

read_requires : tie.Need-read-requires
read_requires c κs = search rules

enum_told : tie.Need-enum_told-1
enum_told c = search rules

keep_requires : tie.Need-keep-requires
keep_requires c κs = search rules

enum_told_2 : tie.Need-enum_told-in-Err
enum_told_2 c = search rules

rework_requires : tie.Need-rework-requires
rework_requires c κs =
    let k = c in
    omega (arith, k.longest_log.ensures, k.if-longest_log-log.false)

same_length : tie.Need-shape_of-out-in-Ok
same_length c = search rules

returns_2 : tie.Need-returns-in-Ok
returns_2 c =
    let q = c.before.before in
    let k = q.before.before.before in
    let b = begun k in
    let a = read_accepted base b.args.log.now (sym k.read.ensures ∙ q.in-Ok.is) in
    let m = kept_mends base b.args.log.now a.0 a.1 (omega (arith, k.longest_log.ensures, k.if-longest_log-log.false)) b.args.out.now b.args.kinds.now b.args.lines.now q.keep.ensures.0 q.keep.ensures.1 in
    (m.told, (m.text_told, (m.kinds_told, m.lines_told)))

same_length_2 : tie.Need-shape_of-out-in-Err
same_length_2 c = search rules

same_length_3 : tie.Need-shape_of-kinds
same_length_3 c = search rules

same_length_4 : tie.Need-shape_of-lines
same_length_4 c = search rules

returns_3 : tie.Need-returns-in-Err
returns_3 c =
    let m = c.rework.ensures in
    (m.told, (m.text_told, (m.kinds_told, m.lines_told)))

pub mend_spec : {M : Type 1} → statement M
mend_spec =
    tie.close
    (tie.spec
    longest_log_requires
    refuse_requires
    returns
    read_requires
    enum_told
    keep_requires
    enum_told_2
    rework_requires
    same_length
    returns_2
    same_length_2
    same_length_3
    same_length_4
    returns_3)
