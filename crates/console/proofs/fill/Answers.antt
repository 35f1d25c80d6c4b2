-- `console::fill` meets its contract: a read puts what it gives behind what was read before.
-- Assumes nothing.
use Rattle.std.proofs.Common.{rules, ◌-◌, length, subst}
use Rattle.std.proofs.KnownBytes.{Consumes-trans}
use Rattle.std.specs.Io.KnownBytes.{Consumes}
use Rattle.console.proofs.ReadLaws.{front_more}
use Rattle.console.proofs.fill.Goals as goal

pub loop-n-preserved : goal.loop-n-preserved
loop-n-preserved g c =
    let n = c.loop-n.n in
    let log = c.loop-n.log in
    record {
      within = search rules;
      bytes = subst (Consumes _ _) (front_more n (length log - n) c.in-Ok.more log c.read.new.buf c.loop-n.invariant.within c.in-Ok.ensures.bound.0)
          (Consumes-trans _ _ _ _ _ c.loop-n.invariant.bytes c.in-Ok.ensures.bytes.0);
    }
