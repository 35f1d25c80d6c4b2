-- A call or none, a locator or none, and a distance: each part keeps its rule, and the last ends with the text.
use Prim.Native.Nat.{ℕ, ◌+◌}
use native.Mathlib.Omega.{arith}
use mathlib.Core.Bool.{Bool}
use mathlib.Core.List.{List, [], ◌∷◌}
use mathlib.Core.Path.{◌≡◌, sym, ◌∙◌}
use Rattle.std.specs.Prelude.{Some}
use Rattle.rules.specs.Arguments.{meets}
use Rattle.rules.specs.Fields.{call, locator, empty_or}
use Rattle.rules.specs.Rules.{base}
use Rattle.rules.specs.Text.{Text, number_of}
use Rattle.fields.specs.declared.CallField.{CallField}
use Rattle.fields.specs.Field.{call_by, end_by}
use Rattle.fields.proofs.PartLaws.{end_within}
use Rattle.fields.proofs.Picked.{call_picked, call_refused, end_picked, end_refused}
use Rattle.figures.proofs.Picked.{number_refused}
use Rattle.header.proofs.DueLaws.{Due, due_first, due_next, due_broken, due_last}
use Rattle.header.proofs.RuleLaws.{number_kept}
use Rattle.header.proofs.is_best_contact.Goals as goal

abbrev parts_rules : List (Text → Bool)
parts_rules = empty_or call ∷ empty_or locator ∷ number_of base.distance_digits ∷ []

-- What is due behind a call, and behind a call and a locator.
module _ (t : Text) {c : CallField} (p : call_by (empty_or call) t 0 ≡ Some c) where
  behind_call : Due parts_rules (empty_or locator ∷ number_of base.distance_digits ∷ []) t (c.end + 1)
  behind_call = due_next (due_first parts_rules t) (call_picked (empty_or call) t 0 p).0

  behind_locator : {e : ℕ} → end_by (empty_or locator) t (c.end + 1) ≡ Some e → Due parts_rules (number_of base.distance_digits ∷ []) t (e + 1)
  behind_locator q = due_next behind_call (end_picked (empty_or locator) t (c.end + 1) q)

pub returns-in_default : goal.returns-in_default
unfolding meets
returns-in_default c =
    due_broken (due_first parts_rules c.args.t.now) (call_refused (empty_or call) _ 0 (sym c.call_or_empty.ensures ∙ c.in_default.is))

pub overflow_add-call : goal.overflow_add-call
overflow_add-call c =
    let t = c.args.t.now in
    omega (arith, (call_picked (empty_or call) t 0 (sym c.call_or_empty.ensures ∙ c.in-Some.is)).0.ending, end_within t 0)

pub returns-in_default-locator_or_empty : goal.returns-in_default-locator_or_empty
unfolding meets
returns-in_default-locator_or_empty c =
    due_broken (behind_call c.args.t.now (sym c.call_or_empty.ensures ∙ c.in-Some.is))
    (end_refused (empty_or locator) _ _ (sym c.locator_or_empty.ensures ∙ c.in_default-locator_or_empty.is))

pub overflow_add-locator : goal.overflow_add-locator
overflow_add-locator c =
    let t = c.args.t.now in
    let second = c.in-Some.call.end + 1 in
    omega (
      arith,
      (call_picked (empty_or call) t 0 (sym c.call_or_empty.ensures ∙ c.in-Some.is)).0.ending,
      end_within t 0,
      (end_picked (empty_or locator) t second (sym c.locator_or_empty.ensures ∙ c.in-Some-locator_or_empty.is)).ending,
      end_within t second,
    )

pub returns-in_default-distance : goal.returns-in_default-distance
unfolding meets
returns-in_default-distance c =
    due_broken
    (behind_locator c.args.t.now (sym c.call_or_empty.ensures ∙ c.in-Some.is) (sym c.locator_or_empty.ensures ∙ c.in-Some-locator_or_empty.is))
    (number_refused (number_of base.distance_digits) _ _ (sym c.distance.ensures ∙ c.in_default-distance.is))

pub returns : goal.returns
unfolding meets
returns c =
    due_last
    (behind_locator c.args.t.now (sym c.call_or_empty.ensures ∙ c.in-Some.is) (sym c.locator_or_empty.ensures ∙ c.in-Some-locator_or_empty.is))
    (number_kept (number_of base.distance_digits) _ _ (sym c.distance.ensures ∙ c.in-Some-distance.is))
