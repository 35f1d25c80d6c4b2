-- Each thing that may be due next has its stage.
use mathlib.Core.Path.{ap, ◌∙◌}
use Prim.Native.Nat.{ℕ}
use borrow.Author.Rules.{rules}
use Rattle.link.specs.Link.{head_goes, went_on}
use Rattle.link.proofs.TakenLaws.{low_next}
use Rattle.rules.specs.Rules.{base}
use Rattle.link.proofs.head_goes.Statement.{statement}
use Rattle.link.proofs.head_goes.Tie as tie

enum_told : tie.Need-enum_told-1
enum_told c = search rules

went_on_requires : tie.Need-went_on-requires
went_on_requires c κs = search rules

enum_known_next : tie.Need-enum_known-next
enum_known_next c = search rules

add_low : tie.Need-overflow_add-k
add_low c = search rules

low_requires : tie.Need-low-requires
low_requires c κs = search rules

went_on_requires_2 : tie.Need-went_on-requires-in-Keyword
went_on_requires_2 c κs = search rules

enum_told_2 : tie.Need-enum_told-in-Remarks
enum_told_2 c = search rules

went_on_requires_3 : tie.Need-went_on-requires-in-Remarks
went_on_requires_3 c κs = search rules

enum_told_3 : tie.Need-enum_told-in-Remark
enum_told_3 c = search rules

went_on_requires_4 : tie.Need-went_on-requires-in-Remark
went_on_requires_4 c κs = search rules

enum_known_next_2 : tie.Need-enum_known-next-in-Record-1
enum_known_next_2 c = search rules

announced_requires : tie.Need-announced-requires
announced_requires c κs = search rules

enum_told_4 : tie.Need-enum_told-in-End
enum_told_4 c = search rules

announced_requires_2 : tie.Need-announced-requires-in-End
announced_requires_2 c κs = search rules

returns : tie.Need-returns-in-Identifier
unfolding head_goes
returns c = rw c.in-Identifier.is c.went_on.ensures

returns_2 : tie.Need-returns-in-Keyword
unfolding head_goes
returns_2 c =
    let a = c.args in
    rw c.in-Keyword.is (c.went_on-in-Keyword.ensures ∙ ap (λ (n : ℕ). went_on base a.s a.line.now n a.s.records a.s.done) (c.low.ensures ∙ low_next _))

returns_3 : tie.Need-returns-in-Remarks
unfolding head_goes
returns_3 c = rw c.in-Remarks.is c.went_on-in-Remarks.ensures

returns_4 : tie.Need-returns-in-Remark
unfolding head_goes
returns_4 c = rw c.in-Remark.is c.went_on-in-Remark.ensures

returns_5 : tie.Need-returns-in-Record
unfolding head_goes
returns_5 c = rw c.in-Record.is c.announced.ensures

returns_6 : tie.Need-returns-in-End
unfolding head_goes
returns_6 c = rw c.in-End.is c.announced-in-End.ensures

pub head_goes_spec : {M : Type 1} → statement M
head_goes_spec =
    tie.close
    (tie.spec
    enum_told
    went_on_requires
    enum_known_next
    add_low
    low_requires
    went_on_requires_2
    enum_told_2
    went_on_requires_3
    enum_told_3
    went_on_requires_4
    enum_known_next_2
    announced_requires
    enum_told_4
    announced_requires_2
    returns
    returns_2
    returns_3
    returns_4
    returns_5
    returns_6)
