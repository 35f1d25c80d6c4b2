-- The answers on the two texts of a word tell whether it names records, and which.
use Rattle.std.proofs.Common.{arith, rules, append_assoc, List, drop-drop, ◌≡◌, ◌≤◌, ◌+◌, ◌-◌, ℕ, ap, length, take, drop, replicate, ◌++◌, length-drop, length-take-le, sym, ◌∙◌}
use Rattle.rules.specs.Rules.{base}
use Rattle.words.specs.Words.{marked_from}
use Rattle.words.proofs.MarkLaws.{no_first, no_last, first_least, last_within, both, both_marked}
use Rattle.words.proofs.mark.Goals as goal

pub returns-in_default-clause-answer : goal.returns-in_default-clause-answer
returns-in_default-clause-answer c = (no_first base _ c.args.struck.now (sym c.in_default.is ∙ c.first_number.ensures)).0

pub returns-in_default-clause-slice : goal.returns-in_default-clause-slice
returns-in_default-clause-slice c = (no_first base _ c.args.struck.now (sym c.in_default.is ∙ c.first_number.ensures)).1

pub returns-in_default-last_number-clause-answer : goal.returns-in_default-last_number-clause-answer
returns-in_default-last_number-clause-answer c =
    (no_last base _ c.args.struck.now (sym c.in_default-last_number.is ∙ c.last_number.ensures)).0

pub returns-in_default-last_number-clause-slice : goal.returns-in_default-last_number-clause-slice
returns-in_default-last_number-clause-slice c =
    (no_last base _ c.args.struck.now (sym c.in_default-last_number.is ∙ c.last_number.ensures)).1

pub overflow_sub-first : goal.overflow_sub-first
overflow_sub-first c =
    first_least base _ c.args.struck.now (sym c.in-Some.is ∙ c.first_number.ensures) (sym c.in-Some-last_number.is ∙ c.last_number.ensures)

pub slice_bounds-fill-end : goal.slice_bounds-fill-end
slice_bounds-fill-end c =
    last_within base _ c.args.struck.now (sym c.in-Some.is ∙ c.first_number.ensures) (sym c.in-Some-last_number.is ∙ c.last_number.ensures)

pub returns-clause-answer : goal.returns-clause-answer
returns-clause-answer c =
    let in_order : c.in-Some.first ≤ c.in-Some-last_number.last = search rules in
    both base _ c.args.struck.now (sym c.in-Some.is ∙ c.first_number.ensures) (sym c.in-Some-last_number.is ∙ c.last_number.ensures) in_order

pub returns-clause-slice : goal.returns-clause-slice
unfolding marked_from
returns-clause-slice c =
    let in_order : c.in-Some.first ≤ c.in-Some-last_number.last = search rules in
    let marks = c.args.struck.now in
    let first = sym c.in-Some.is ∙ c.first_number.ensures in
    let last = sym c.in-Some-last_number.is ∙ c.last_number.ensures in
    let from = c.in-Some.first - 1 in
    let to = c.in-Some-last_number.last in
    let low : from ≤ to = omega (arith, in_order) in
    let fits : to - from ≤ length (drop from marks) = omega (arith, length-drop from marks, last_within base _ marks first last) in
    let end : from + (to - from) ≡ to = omega (arith, low) in
    let rest : drop (to - from) (drop from marks) ≡ drop to marks = drop-drop (to - from) from marks ∙ ap (λ (k : ℕ). drop k marks) end in
    rw (c.fill.ensures.after (λ y h. h), length-take-le (to - from) (drop from marks) fits) (ap (λ (t : List ℕ). take from marks ++ (replicate (to - from) 1 ++ t)) rest)
    ∙ sym (append_assoc (take from marks) (replicate (to - from) 1) (drop to marks))
    ∙ both_marked base _ marks first last in_order
