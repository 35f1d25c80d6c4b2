-- A count, a bonus and a multiplier: each part keeps its rule, and the last ends with the text.
use Prim.Native.Nat.{ℕ, ◌+◌}
use native.Mathlib.Omega.{arith}
use mathlib.Core.Bool.{Bool}
use mathlib.Core.List.{List, [], ◌∷◌}
use mathlib.Core.Path.{◌≡◌, sym, ◌∙◌}
use Rattle.std.specs.Prelude.{Some}
use Rattle.rules.specs.Arguments.{count, bonus, multiplier, meets}
use Rattle.rules.specs.Rules.{base}
use Rattle.rules.specs.Text.{Text}
use Rattle.fields.proofs.PartLaws.{end_within}
use Rattle.figures.specs.Figure.{number_at}
use Rattle.figures.proofs.Picked.{number_refused}
use Rattle.header.proofs.DueLaws.{Due, due_first, due_next, due_broken, due_last}
use Rattle.header.proofs.RuleLaws.{number_kept}
use Rattle.header.proofs.is_count_bonus_multiplier.Goals as goal

abbrev parts_rules : List (Text → Bool)
parts_rules = count base ∷ bonus base ∷ multiplier base ∷ []

-- What is due behind a count, and behind a count and a bonus.
module _ (t : Text) {v e : ℕ} (p : number_at (count base) t 0 ≡ Some (v, e)) where
  behind_count : Due parts_rules (bonus base ∷ multiplier base ∷ []) t (e + 1)
  behind_count = due_next (due_first parts_rules t) (number_kept (count base) t 0 p)

  behind_bonus : {w f : ℕ} → number_at (bonus base) t (e + 1) ≡ Some (w, f) → Due parts_rules (multiplier base ∷ []) t (f + 1)
  behind_bonus q = due_next behind_count (number_kept (bonus base) t (e + 1) q)

pub returns-in_default : goal.returns-in_default
unfolding meets
returns-in_default c =
    due_broken (due_first parts_rules c.args.t.now) (number_refused (count base) _ 0 (sym c.count_of.ensures ∙ c.in_default.is))

pub overflow_add-count : goal.overflow_add-count
overflow_add-count c =
    omega (arith, (number_kept (count base) c.args.t.now 0 (sym c.count_of.ensures ∙ c.in-Some.is)).ending, end_within c.args.t.now 0)

pub returns-in_default-bonus_of : goal.returns-in_default-bonus_of
unfolding meets
returns-in_default-bonus_of c =
    due_broken (behind_count c.args.t.now (sym c.count_of.ensures ∙ c.in-Some.is))
    (number_refused (bonus base) _ _ (sym c.bonus_of.ensures ∙ c.in_default-bonus_of.is))

pub overflow_add-bonus : goal.overflow_add-bonus
overflow_add-bonus c =
    let t = c.args.t.now in
    omega (
      arith,
      (number_kept (count base) t 0 (sym c.count_of.ensures ∙ c.in-Some.is)).ending,
      end_within t 0,
      (number_kept (bonus base) t (c.in-Some.count + 1) (sym c.bonus_of.ensures ∙ c.in-Some-bonus_of.is)).ending,
      end_within t (c.in-Some.count + 1),
    )

pub returns-in_default-multiplier_of : goal.returns-in_default-multiplier_of
unfolding meets
returns-in_default-multiplier_of c =
    due_broken (behind_bonus c.args.t.now (sym c.count_of.ensures ∙ c.in-Some.is) (sym c.bonus_of.ensures ∙ c.in-Some-bonus_of.is))
    (number_refused (multiplier base) _ _ (sym c.multiplier_of.ensures ∙ c.in_default-multiplier_of.is))

pub returns : goal.returns
unfolding meets
returns c =
    due_last (behind_bonus c.args.t.now (sym c.count_of.ensures ∙ c.in-Some.is) (sym c.bonus_of.ensures ∙ c.in-Some-bonus_of.is))
    (number_kept (multiplier base) _ _ (sym c.multiplier_of.ensures ∙ c.in-Some-multiplier_of.is))
