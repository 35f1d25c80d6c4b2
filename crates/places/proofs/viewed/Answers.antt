-- A view is the part of the log that it tells of, at its place there.
use Rattle.std.proofs.Common.{arith, ℕ, ◌≡◌, ◌+◌, ◌-◌, drop, take, sym, ap, ◌∙◌}
use Rattle.rules.specs.Rules.{base}
use Rattle.places.proofs.ViewLaws.{view_hides, view_shows, view_starts, view_starts_nowhere}
use Rattle.places.proofs.viewed.Goals as goal

pub overflow_add-result : goal.overflow_add-result
overflow_add-result c = omega (arith, (view_shows base _ _ (sym c.view.ensures ∙ c.in-Ok.is)).0, c.well_formed.0.1)

pub slice_bounds-result-end-in-Ok : goal.slice_bounds-result-end-in-Ok
slice_bounds-result-end-in-Ok c = (view_shows base _ _ (sym c.view.ensures ∙ c.in-Ok.is)).0

pub returns-in-Err-clause-text : goal.returns-in-Err-clause-text
returns-in-Err-clause-text c = view_hides base _ _ (sym c.view.ensures ∙ c.in-Err.is)

pub returns-in-Err-clause-place : goal.returns-in-Err-clause-place
returns-in-Err-clause-place c = omega (arith, view_starts_nowhere base _ _ (sym c.view.ensures ∙ c.in-Err.is))

pub returns-in-Ok-clause-text : goal.returns-in-Ok-clause-text
returns-in-Ok-clause-text c =
    let seen = c.in-Ok.seen in
    let rest : seen.start + seen.length - seen.start ≡ seen.length = omega arith in
    ap (λ (n : ℕ). take n (drop seen.start c.args.log.now)) rest ∙ (view_shows base _ _ (sym c.view.ensures ∙ c.in-Ok.is)).1

pub returns-in-Ok-clause-place : goal.returns-in-Ok-clause-place
returns-in-Ok-clause-place c = omega (arith, view_starts base _ _ (sym c.view.ensures ∙ c.in-Ok.is))
