-- Each turn puts one keyword as it is listed, and what is put of the rest is put of the whole.
use native.Mathlib.Omega.{arith}
use mathlib.Core.Path.{sym, ap, ◌∙◌}
use lib.ListN.{length}
use Rattle.writer.proofs.RespellingLaws.{listed_six, relisted_none, relisted_some, respelled_done, keyword_room, respelled_more, lie_more}
use Rattle.writer.proofs.respell.Goals as goal

pub returns-then-respelt-eq0 : goal.returns-then-respelt-eq0
returns-then-respelt-eq0 c = relisted_none _ _ c.if-respelt-eq0.true

pub put_part-argument-requires : goal.put_part-argument-requires
put_part-argument-requires c =
    let k = c.loop-k in
    (omega arith, omega (arith, ap length c.listed.ensures, listed_six k.k c.loop-k-test.true), keyword_room k.k k.at k.out c.loop-k-test.true k.invariant.0)

pub loop-k-preserved : goal.loop-k-preserved
loop-k-preserved c =
    let k = c.loop-k in
    let h = c.loop-k-test.true in
    let word = c.listed.ensures in
    let put = c.put_part-argument.ensures in
    let next = c.line_behind-at.ensures in
    (lie_more k.k k.at k.out h k.invariant.0 word put next, k.invariant.1 ∙ respelled_more k.k k.at k.out h k.invariant.0 word put next)

pub returns : goal.returns
returns c =
    let k = c.loop-k in
    sym (k.invariant.1 ∙ respelled_done k.k k.at k.out (omega arith)) ∙ relisted_some _ _ c.if-respelt-eq0.false
