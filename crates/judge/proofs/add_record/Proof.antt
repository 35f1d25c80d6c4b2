-- What a record adds is told by its class.
use native.Mathlib.Omega.{arith}
use mathlib.Core.Path.{refl}
use borrow.Author.Rules.{rules}
use Rattle.rules.specs.Judging.{class_number, is}
use Rattle.judge.specs.Count.{tallied}
use Rattle.judge.proofs.CountLaws.{void_sums, duplicate_sums, error_sums, other_list}
use Rattle.judge.proofs.add_record.Statement.{statement}
use Rattle.judge.proofs.add_record.Tie as tie

enum_told : tie.Need-enum_told_at-1
enum_told c = search rules

credited_more_requires : tie.Need-credited_more-requires
credited_more_requires c κs = search rules

enum_told_2 : tie.Need-enum_told_at-in-Void
enum_told_2 c = search rules

add_sums : tie.Need-overflow_add-sums
add_sums c = omega (arith, c.requires.voids)

enum_told_3 : tie.Need-enum_told_at-in-Duplicate
enum_told_3 c = search rules

add_sums_2 : tie.Need-overflow_add-sums-in-Duplicate
add_sums_2 c = omega (arith, c.requires.duplicates)

enum_told_4 : tie.Need-enum_told_at-in-Error
enum_told_4 c = search rules

add_sums_3 : tie.Need-overflow_add-sums-in-Error
add_sums_3 c = omega (arith, c.requires.errors)

returns : tie.Need-returns-in-Credited
returns c = search rules

returns_2 : tie.Need-returns-in-Void
unfolding is class_number
returns_2 c =
    let start = c in
    let a = start.args in
    let h = start.requires in
    let class = c.in-Void.is in
    (void_sums (tallied a.t a.modes.now) a.worth a.mode a.v h.exchange h.square h.country class, other_list a.modes.now a.mode a.v class refl)

returns_3 : tie.Need-returns-in-Duplicate
unfolding is class_number
returns_3 c =
    let start = c in
    let a = start.args in
    let h = start.requires in
    let class = c.in-Duplicate.is in
    (duplicate_sums (tallied a.t a.modes.now) a.worth a.mode a.v h.exchange h.square h.country class, other_list a.modes.now a.mode a.v class refl)

returns_4 : tie.Need-returns-in-Error
unfolding is class_number
returns_4 c =
    let start = c in
    let a = start.args in
    let h = start.requires in
    let class = c.in-Error.is in
    (error_sums (tallied a.t a.modes.now) a.worth a.mode a.v h.exchange h.square h.country class, other_list a.modes.now a.mode a.v class refl)

pub add_record_spec : {M : Type 1} → statement M
add_record_spec =
    tie.close
    (tie.spec
    enum_told
    credited_more_requires
    enum_told_2
    add_sums
    enum_told_3
    add_sums_2
    enum_told_4
    add_sums_3
    returns
    returns_2
    returns_3
    returns_4)
