-- What the judge answers is handed out in C's struct, and the slice is as the judge leaves it.
use Rattle.pad.proofs.FaceLaws.{totals_shown, unjudged_shown}
use mathlib.Core.Path.{sym, ◌∙◌}
use borrow.Author.Rules.{rules}
use Rattle.pad.proofs.sumpquince_judge.Statement.{statement}
use Rattle.pad.proofs.sumpquince_judge.Tie as tie

judge_requires : tie.Need-judge-requires
judge_requires c κs = search rules

enum_known_t : tie.Need-enum_known-t
enum_known_t c = search rules

no_refusal_requires : tie.Need-no_refusal-requires
no_refusal_requires c κs = search rules

totals_face_requires : tie.Need-totals_face-requires
totals_face_requires c κs = search rules

enum_known_r : tie.Need-enum_known-r
enum_known_r c = search rules

from_requires : tie.Need-from-requires
from_requires c κs = search rules

no_totals_requires : tie.Need-no_totals-requires
no_totals_requires c κs = search rules

totals_face_requires_2 : tie.Need-totals_face-requires-in-Err
totals_face_requires_2 c κs = search rules

same_length : tie.Need-shape_of-verdicts-in-Ok
same_length c = search rules

returns : tie.Need-returns-in-Ok
returns c =
    let known = c.before.before in
    let judged = known in
    (totals_shown _ _ c.totals_face.ensures c.no_refusal.ensures (sym known.in-Ok.is ∙ judged.judge.ensures.0), judged.judge.ensures.1)

same_length_2 : tie.Need-shape_of-verdicts-in-Err
same_length_2 c = search rules

returns_2 : tie.Need-returns-in-Err
returns_2 c =
    let known = c.before.before.before in
    let judged = known in
    (unjudged_shown _ _ c.totals_face-in-Err.ensures c.from.ensures c.no_totals.ensures (sym known.in-Err.is ∙ judged.judge.ensures.0), judged.judge.ensures.1)

pub sumpquince_judge_spec : {M : Type 1} → statement M
sumpquince_judge_spec =
    tie.close
    (tie.spec
    judge_requires
    enum_known_t
    no_refusal_requires
    totals_face_requires
    enum_known_r
    from_requires
    no_totals_requires
    totals_face_requires_2
    same_length
    returns
    same_length_2
    returns_2)
