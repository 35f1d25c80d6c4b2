-- A CR at the end of a line belongs to its end.
-- Assumes nothing.
use Rattle.mender.proofs.CutLaws.{end_empty, end_cr, end_other}
use Rattle.mender.proofs.text_end.Goals.{else-at-feed-via-then-at-feed+else-s-feed-eq13, else-at-feed-via-else-at-feed}
use Rattle.mender.proofs.text_end.Goals as goal

pub returns-then-s-feed-eq13 : goal.returns-then-s-feed-eq13
returns-then-s-feed-eq13 c = end_cr _ _ _ c.requires.0 c.requires.1 c.if-at-feed.true c.if-s-feed-eq13.true

pub returns-else-at-feed : goal.returns-else-at-feed
returns-else-at-feed c =
    elim c.else-at-feed.branch [
      | else-at-feed-via-then-at-feed+else-s-feed-eq13 w ↦ end_other _ _ _ c.requires.0 c.requires.1 w.if-at-feed.true w.if-s-feed-eq13.false
      | else-at-feed-via-else-at-feed w ↦ end_empty _ _ _ c.requires.0 c.requires.1 w.if-at-feed.false
    ]
