-- Nothing, or calls: the loop goes from part to part, and every part before the present one is a call.
use Prim.Native.Nat.{◌-◌, ◌≤◌, ◌<◌}
use native.Mathlib.Omega.{arith}
use mathlib.Core.Bool.{true, false}
use mathlib.Core.Path.{◌≡◌, refl, sym, ◌∙◌}
use lib.ListN.{length, drop}
use borrow.Author.Rules.{rules}
use Rattle.rules.specs.Arguments.{every}
use Rattle.rules.specs.Fields.{call}
use Rattle.rules.specs.Rules.{base}
use Rattle.rules.specs.Text.{Text, parts}
use Rattle.fields.proofs.PartLaws.{end_by_span, end_within}
use Rattle.fields.proofs.Picked.{Kept, call_picked, call_refused}
use Rattle.header.proofs.CallsLaws.{every_broken, every_last, every_more, every_none, calls_none, calls_told}
use Rattle.header.proofs.is_empty_or_calls.Statement.{statement}
use Rattle.header.proofs.is_empty_or_calls.Tie as tie

abbrev invariant-loop : tie.invariant-loop-at
invariant-loop t at₀ at = (at ≤ length t) × (every call (parts t) ≡ every call (parts (drop at t)))

abbrev decreases-loop : tie.decreases-loop-at
decreases-loop t at₀ at = length t - at

-- The loop's turn, from behind the call that was read, and the text.
abbrev turn : tie.In-Some invariant-loop decreases-loop → tie.At-loop-at invariant-loop decreases-loop
turn c = c.before.before.before

abbrev text : tie.At-loop-at invariant-loop decreases-loop → Text
text c = c.args.t.now

call_kept : (c : tie.In-Some invariant-loop decreases-loop) → Kept call (text (turn c)) (turn c).loop-at.at c.in-Some.call.end
call_kept c = (call_picked call (text (turn c)) (turn c).loop-at.at (sym c.call.ensures ∙ c.in-Some.is)).0

returns : tie.Need-returns-then-t-eq0 invariant-loop decreases-loop
returns c = calls_none base _ c.if-t-eq0.true

loop_holds : tie.Need-loop-at-init invariant-loop decreases-loop
loop_holds c = (search rules, refl)

call_requires : tie.Need-call-requires invariant-loop decreases-loop
call_requires c κs = tt

enum_known_call : tie.Need-enum_known-call invariant-loop decreases-loop
enum_known_call c = search rules

enum_told : tie.Need-enum_told-1 invariant-loop decreases-loop
enum_told c = search rules

returns_2 : tie.Need-returns-in_default invariant-loop decreases-loop
returns_2 c =
    let d = c.before.before.before in
    calls_told base (text d) false d.if-t-eq0.false
    (d.loop-at.invariant.1
    ∙ every_broken call (text d) d.loop-at.at (call_refused call (text d) d.loop-at.at (sym c.call.ensures ∙ c.in_default.is)))

returns_3 : tie.Need-returns-then-call-t invariant-loop decreases-loop
returns_3 c =
    let d = turn c.before.before in
    calls_told base (text d) true d.if-t-eq0.false
    (d.loop-at.invariant.1 ∙ every_last call (text d) d.loop-at.at (call_kept c.before.before) c.if-call-t.true)

add_at : tie.Need-overflow_add-at invariant-loop decreases-loop
add_at c =
    let d = turn c.before.before.before in
    omega (arith, (call_kept c.before.before.before).ending, end_within (text d) d.loop-at.at)

loop_less : tie.Need-loop-at-smaller invariant-loop decreases-loop
loop_less c =
    let d = turn c.before.before.before in
    omega (arith, (call_kept c.before.before.before).ending, end_by_span (text d) d.loop-at.at)

loop_again : tie.Need-loop-at-preserved invariant-loop decreases-loop
loop_again c =
    let d = turn c.before.before.before in
    let inside : c.before.before.in-Some.call.end < length (text d) = omega (arith, (call_kept c.before.before.before).ending, end_within (text d) d.loop-at.at) in
    (omega arith, d.loop-at.invariant.1 ∙ every_more call (text d) d.loop-at.at (call_kept c.before.before.before) inside)

returns_4 : tie.Need-returns invariant-loop decreases-loop
returns_4 c =
    let d = c.before in
    calls_told base (text d) false d.if-t-eq0.false (d.loop-at.invariant.1 ∙ every_none (text d) d.loop-at.at (search rules))

pub is_empty_or_calls_spec : {M : Type 1} → statement M
is_empty_or_calls_spec =
    tie.close
    (tie.spec
    invariant-loop
    decreases-loop
    returns
    loop_holds
    call_requires
    enum_known_call
    enum_told
    returns_2
    returns_3
    add_at
    loop_less
    loop_again
    returns_4)
