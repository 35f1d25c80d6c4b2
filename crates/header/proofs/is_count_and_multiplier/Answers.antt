-- A count and a multiplier: each part keeps its rule, and the last ends with the text.
use Prim.Native.Nat.{ℕ, ◌+◌}
use native.Mathlib.Omega.{arith}
use mathlib.Core.Bool.{Bool}
use mathlib.Core.List.{List, [], ◌∷◌}
use mathlib.Core.Path.{◌≡◌, sym, ◌∙◌}
use Rattle.std.specs.Prelude.{Some}
use Rattle.rules.specs.Arguments.{count, multiplier, meets}
use Rattle.rules.specs.Rules.{base}
use Rattle.rules.specs.Text.{Text}
use Rattle.fields.proofs.PartLaws.{end_within}
use Rattle.figures.specs.Figure.{number_at}
use Rattle.figures.proofs.Picked.{number_refused}
use Rattle.header.proofs.DueLaws.{Due, due_first, due_next, due_broken, due_last}
use Rattle.header.proofs.RuleLaws.{number_kept}
use Rattle.header.proofs.is_count_and_multiplier.Goals as goal

abbrev parts_rules : List (Text → Bool)
parts_rules = count base ∷ multiplier base ∷ []

-- The multiplier is due behind a count.
behind_count : (t : Text) {v e : ℕ} → number_at (count base) t 0 ≡ Some (v, e) → Due parts_rules (multiplier base ∷ []) t (e + 1)
behind_count t p = due_next (due_first parts_rules t) (number_kept (count base) t 0 p)

pub returns-in_default : goal.returns-in_default
unfolding meets
returns-in_default c =
    due_broken (due_first parts_rules c.args.t.now) (number_refused (count base) _ 0 (sym c.count_of.ensures ∙ c.in_default.is))

pub overflow_add-count : goal.overflow_add-count
overflow_add-count c =
    omega (arith, (number_kept (count base) c.args.t.now 0 (sym c.count_of.ensures ∙ c.in-Some.is)).ending, end_within c.args.t.now 0)

pub returns-in_default-multiplier_of : goal.returns-in_default-multiplier_of
unfolding meets
returns-in_default-multiplier_of c =
    due_broken (behind_count c.args.t.now (sym c.count_of.ensures ∙ c.in-Some.is))
    (number_refused (multiplier base) _ _ (sym c.multiplier_of.ensures ∙ c.in_default-multiplier_of.is))

pub returns : goal.returns
unfolding meets
returns c =
    due_last (behind_count c.args.t.now (sym c.count_of.ensures ∙ c.in-Some.is))
    (number_kept (multiplier base) _ _ (sym c.multiplier_of.ensures ∙ c.in-Some-multiplier_of.is))
