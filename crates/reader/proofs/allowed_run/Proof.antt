-- Each of four characters is looked at, and the run goes on behind them.
use borrow.Author.Rules.{rules}
use native.Mathlib.Omega.{arith}
use Prim.Native.Nat.{ℕ, ◌+◌, ◌-◌, ◌≤◌, ◌<◌}
use mathlib.Core.Path.{refl, sym, ◌∙◌}
use lib.ListN.{length}
use Rattle.fields.proofs.FieldLaws.{Within, run_ends, run_starts, run_stops}
use Rattle.rules.specs.Text.{Text, allowed}
use Rattle.reader.proofs.LineLaws.{run_on}
use Rattle.reader.proofs.allowed_run.Statement.{statement}
use Rattle.reader.proofs.allowed_run.Tie as tie

abbrev invariant-loop : tie.invariant-loop-i
invariant-loop s at i₀ i = (i ≤ length s) × Within allowed s at i

abbrev decreases-loop : tie.decreases-loop-i
decreases-loop s at i₀ i = length s - i

-- The text, its first place and the present one, behind each of the four characters.
abbrev text2 : tie.Else-not-is_allowed invariant-loop decreases-loop → Text
text2 c = let l = c.before.before.before.before in l.args.s.now

abbrev first2 : tie.Else-not-is_allowed invariant-loop decreases-loop → ℕ
first2 c = let l = c.before.before.before.before in l.args.at

abbrev here2 : tie.Else-not-is_allowed invariant-loop decreases-loop → ℕ
here2 c = c.loop-i.i

room2 : (c : tie.Else-not-is_allowed invariant-loop decreases-loop) → here2 c + 3 < length (text2 c)
room2 c = c.loop-i-test.true

run2 : (c : tie.Else-not-is_allowed invariant-loop decreases-loop) → Within allowed (text2 c) (first2 c) (here2 c + 1)
run2 c =
    run_on c.loop-i.invariant.1 (omega (arith, room2 c)) c.is_allowed.ensures c.if-not-is_allowed.false-raw refl

abbrev text3 : tie.Else-not-is_allowed-2 invariant-loop decreases-loop → Text
text3 c = text2 c.before.before.before

abbrev first3 : tie.Else-not-is_allowed-2 invariant-loop decreases-loop → ℕ
first3 c = first2 c.before.before.before

abbrev here3 : tie.Else-not-is_allowed-2 invariant-loop decreases-loop → ℕ
here3 c = here2 c.before.before.before

room3 : (c : tie.Else-not-is_allowed-2 invariant-loop decreases-loop) → here3 c + 3 < length (text3 c)
room3 c = room2 c.before.before.before

run3 : (c : tie.Else-not-is_allowed-2 invariant-loop decreases-loop) → Within allowed (text3 c) (first3 c) (here3 c + 2)
run3 c =
    run_on (run2 c.before.before.before) (omega (arith, room3 c)) c.is_allowed-in-loop-i.ensures c.if-not-is_allowed-2.false-raw (omega arith)

abbrev text4 : tie.Else-not-is_allowed-3 invariant-loop decreases-loop → Text
text4 c = text3 c.before.before.before

abbrev first4 : tie.Else-not-is_allowed-3 invariant-loop decreases-loop → ℕ
first4 c = first3 c.before.before.before

abbrev here4 : tie.Else-not-is_allowed-3 invariant-loop decreases-loop → ℕ
here4 c = here3 c.before.before.before

room4 : (c : tie.Else-not-is_allowed-3 invariant-loop decreases-loop) → here4 c + 3 < length (text4 c)
room4 c = room3 c.before.before.before

run4 : (c : tie.Else-not-is_allowed-3 invariant-loop decreases-loop) → Within allowed (text4 c) (first4 c) (here4 c + 3)
run4 c =
    run_on (run3 c.before.before.before) (omega (arith, room4 c)) c.is_allowed-in-loop-i-2.ensures c.if-not-is_allowed-3.false-raw (omega arith)

abbrev text5 : tie.Else-not-is_allowed-4 invariant-loop decreases-loop → Text
text5 c = text4 c.before.before.before

abbrev first5 : tie.Else-not-is_allowed-4 invariant-loop decreases-loop → ℕ
first5 c = first4 c.before.before.before

abbrev here5 : tie.Else-not-is_allowed-4 invariant-loop decreases-loop → ℕ
here5 c = here4 c.before.before.before

room5 : (c : tie.Else-not-is_allowed-4 invariant-loop decreases-loop) → here5 c + 3 < length (text5 c)
room5 c = room4 c.before.before.before

run5 : (c : tie.Else-not-is_allowed-4 invariant-loop decreases-loop) → Within allowed (text5 c) (first5 c) (here5 c + 4)
run5 c =
    run_on (run4 c.before.before.before) (omega (arith, room5 c)) c.is_allowed-in-loop-i-3.ensures c.if-not-is_allowed-4.false-raw (omega arith)

returns : tie.Need-returns-then-s-at invariant-loop decreases-loop
returns c = run_ends (run_starts allowed _ _) c.if-s-at.true

loop_holds : tie.Need-loop-i-init invariant-loop decreases-loop
loop_holds c = (search rules, run_starts allowed _ _)

add_loop : tie.Need-overflow_add-i invariant-loop decreases-loop
add_loop c = search rules

shared_slice_read_is_allowed : tie.Need-bounds-s-i invariant-loop decreases-loop
shared_slice_read_is_allowed c = search rules

is_allowed_requires : tie.Need-is_allowed-requires invariant-loop decreases-loop
is_allowed_requires c κs = search rules

returns_2 : tie.Need-returns-then-not-is_allowed invariant-loop decreases-loop
returns_2 c =
    run_stops c.loop-i.invariant.1 (omega (arith, c.loop-i-test.true)) c.is_allowed.ensures c.if-not-is_allowed.true-raw

add_is_allowed : tie.Need-overflow_add-i-in-loop-i invariant-loop decreases-loop
add_is_allowed c = search rules

shared_slice_read_is_allowed_2 : tie.Need-bounds-s-i-in-loop-i invariant-loop decreases-loop
shared_slice_read_is_allowed_2 c = search rules

is_allowed_requires_2 : tie.Need-is_allowed-requires-in-loop-i invariant-loop decreases-loop
is_allowed_requires_2 c κs = search rules

add_result : tie.Need-overflow_add-result invariant-loop decreases-loop
add_result c = search rules

returns_3 : tie.Need-returns-then-not-is_allowed-2 invariant-loop decreases-loop
returns_3 c = run_stops (run2 c.before.before.before) (omega (arith, room2 c.before.before.before)) c.is_allowed-in-loop-i.ensures c.if-not-is_allowed-2.true-raw

add_is_allowed_2 : tie.Need-overflow_add-i-in-loop-i-2 invariant-loop decreases-loop
add_is_allowed_2 c = search rules

shared_slice_read_is_allowed_3 : tie.Need-bounds-s-i-in-loop-i-2 invariant-loop decreases-loop
shared_slice_read_is_allowed_3 c = search rules

is_allowed_requires_3 : tie.Need-is_allowed-requires-in-loop-i-2 invariant-loop decreases-loop
is_allowed_requires_3 c κs = search rules

add_result_2 : tie.Need-overflow_add-result-then-not-is_allowed-3 invariant-loop decreases-loop
add_result_2 c = search rules

returns_4 : tie.Need-returns-then-not-is_allowed-3 invariant-loop decreases-loop
returns_4 c = run_stops (run3 c.before.before.before) (omega (arith, room3 c.before.before.before)) c.is_allowed-in-loop-i-2.ensures c.if-not-is_allowed-3.true-raw

add_is_allowed_3 : tie.Need-overflow_add-i-in-loop-i-3 invariant-loop decreases-loop
add_is_allowed_3 c = search rules

shared_slice_read_is_allowed_4 : tie.Need-bounds-s-i-in-loop-i-3 invariant-loop decreases-loop
shared_slice_read_is_allowed_4 c = search rules

is_allowed_requires_4 : tie.Need-is_allowed-requires-in-loop-i-3 invariant-loop decreases-loop
is_allowed_requires_4 c κs = search rules

add_result_3 : tie.Need-overflow_add-result-then-not-is_allowed-4 invariant-loop decreases-loop
add_result_3 c = search rules

returns_5 : tie.Need-returns-then-not-is_allowed-4 invariant-loop decreases-loop
returns_5 c = run_stops (run4 c.before.before.before) (omega (arith, room4 c.before.before.before)) c.is_allowed-in-loop-i-3.ensures c.if-not-is_allowed-4.true-raw

add_i : tie.Need-overflow_add-i-in-loop-i-4 invariant-loop decreases-loop
add_i c = search rules

loop_less : tie.Need-loop-i-smaller invariant-loop decreases-loop
loop_less c = search rules

loop_again : tie.Need-loop-i-preserved invariant-loop decreases-loop
loop_again c = (omega (arith, room5 c), run5 c)

run_requires : tie.Need-run-requires invariant-loop decreases-loop
run_requires c κs = search rules

returns_6 : tie.Need-returns invariant-loop decreases-loop
returns_6 c = c.run.ensures ∙ sym c.loop-i.invariant.1.ending

pub allowed_run_spec : {M : Type 1} → statement M
allowed_run_spec =
    tie.close
    (tie.spec
    invariant-loop
    decreases-loop
    returns
    loop_holds
    add_loop
    shared_slice_read_is_allowed
    is_allowed_requires
    returns_2
    add_is_allowed
    shared_slice_read_is_allowed_2
    is_allowed_requires_2
    add_result
    returns_3
    add_is_allowed_2
    shared_slice_read_is_allowed_3
    is_allowed_requires_3
    add_result_2
    returns_4
    add_is_allowed_3
    shared_slice_read_is_allowed_4
    is_allowed_requires_4
    add_result_3
    returns_5
    add_i
    loop_less
    loop_again
    run_requires
    returns_6)
