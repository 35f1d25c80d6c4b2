-- The count line is read: N is known, and the slices suffice for it or 7 is told.
use mathlib.Core.Path.{sym, ap, ◌∙◌}
use Prim.Native.Nat.{ℕ}
use borrow.Author.Rules.{rules}
use Rattle.link.proofs.TakenLaws.{long_kept, long_lacking}
use Rattle.link.specs.Link.{went_on}
use Rattle.rules.specs.Rules.{base}
use Rattle.link.proofs.announced.Statement.{statement}
use Rattle.link.proofs.announced.Tie as tie

low_requires : tie.Need-low-requires
low_requires c κs = search rules

went_on_requires : tie.Need-went_on-t-requires
went_on_requires c κs = search rules

lends_enough_requires : tie.Need-lends_enough-requires
lends_enough_requires c κs = search rules

returns : tie.Need-returns-then-lends_enough
returns c =
    let a = c.args in
    long_kept _ (c.went_on-t.ensures ∙ ap (λ (n : ℕ). went_on base a.s a.line.now 39 n 0) c.low.ensures) (sym c.lends_enough.ensures ∙ c.if-lends_enough.true)

stopped_requires : tie.Need-stopped-requires
stopped_requires c κs = search rules

returns_2 : tie.Need-returns
returns_2 c =
    let a = c.args in
    c.stopped.ensures ∙ long_lacking _ (c.went_on-t.ensures ∙ ap (λ (n : ℕ). went_on base a.s a.line.now 39 n 0) c.low.ensures) (sym c.lends_enough.ensures ∙ c.if-lends_enough.false)

pub announced_spec : {M : Type 1} → statement M
announced_spec =
    tie.close
    (tie.spec
    low_requires
    went_on_requires
    lends_enough_requires
    returns
    stopped_requires
    returns_2)
