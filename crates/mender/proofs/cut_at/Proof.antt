-- The line ends at the first LF behind the allowed characters at its front.
-- Assumes nothing.
use borrow.Author.Rules.{rules}
use Prim.Native.Nat.{◌≤◌}
use lib.ListN.{length}
use Rattle.mender.proofs.CutLaws.{cuts, feed_forth, feed_within}
use Rattle.mender.proofs.cut_at.Statement.{statement}
use Rattle.mender.proofs.cut_at.Tie as tie

allowed_run_requires : tie.Need-allowed_run-run-requires
allowed_run_requires c κs = search rules

run_requires : tie.Need-run-feed-requires
run_requires c κs = search rules

text_end_requires : tie.Need-text_end-end-requires
text_end_requires c κs =
    let b = c in (
      feed_forth b.args.s.now b.args.at b.requires c.allowed_run-run.ensures c.run-feed.ensures,
      feed_within b.args.s.now b.args.at b.requires c.allowed_run-run.ensures c.run-feed.ensures,
    )

add_t6 : tie.Need-overflow_add-result
add_t6 c =
    let f = c.before in
    let b = f in
    let within : f.run-feed.result ≤ length b.args.s.now = feed_within b.args.s.now b.args.at b.requires f.allowed_run-run.ensures f.run-feed.ensures in
    search rules

end_done_requires : tie.Need-end_done-requires
end_done_requires c κs = search rules

returns : tie.Need-returns
returns c =
    let f = c.before.before in
    let b = f in
    cuts b.args.s.now b.args.at b.requires f.allowed_run-run.ensures f.run-feed.ensures c.text_end-end.ensures c.end_done.ensures

pub cut_at_spec : {M : Type 1} → statement M
cut_at_spec =
    tie.close
    (tie.spec
    allowed_run_requires
    run_requires
    text_end_requires
    add_t6
    end_done_requires
    returns)
