-- A keyword's line goes by how the keyword is spelt, and by its argument.
use native.Mathlib.Omega.{arith}
use mathlib.Core.Path.{sym, ap, ◌∙◌}
use Rattle.std.specs.Prelude.{Result}
use Rattle.rules.specs.declared.Due.{Due}
use Rattle.rules.specs.declared.Fault.{Fault}
use Rattle.rules.specs.Rules.{base}
use Rattle.reader.proofs.DueLaws.{stands_listed, stands_respelt, keyword_long, step_differs, step_listed, step_respelt}
use Rattle.reader.proofs.HeadLaws.{log_small}
use Rattle.reader.proofs.keyword_step.Goals as goal
use Rattle.reader.proofs.keyword_step.Goals.{in-Listed, in-Respelt}

pub overflow_add-count : goal.overflow_add-count
overflow_add-count c = omega (arith, log_small, c.requires)

pub returns-in-Differs : goal.returns-in-Differs
returns-in-Differs c =
    ap (λ (next : Result Due Fault). record { next = next; respelt = c.args.respelt }) c.refused.ensures
    ∙ step_differs base _ _ _ (sym c.keyword.ensures ∙ c.in-Differs.is)

pub slice_bounds-argument_step-count : goal.slice_bounds-argument_step-count
slice_bounds-argument_step-count c =
    elim c.match-keyword.branch [
      | in-Listed w ↦ keyword_long base _ _ (stands_listed _ _ (sym c.keyword.ensures ∙ w.in-Listed.is))
      | in-Respelt w ↦ keyword_long base _ _ (stands_respelt _ _ (sym c.keyword.ensures ∙ w.in-Respelt.is))
    ]

pub slice_bounds-argument_step-start : goal.slice_bounds-argument_step-start
slice_bounds-argument_step-start c =
    elim c.match-keyword.branch [
      | in-Listed w ↦ keyword_long base _ _ (stands_listed _ _ (sym c.keyword.ensures ∙ w.in-Listed.is))
      | in-Respelt w ↦ keyword_long base _ _ (stands_respelt _ _ (sym c.keyword.ensures ∙ w.in-Respelt.is))
    ]

pub returns : goal.returns
returns c =
    elim c.match-keyword.branch [
      | in-Listed w ↦ step_listed base _ _ _ (sym c.keyword.ensures ∙ w.in-Listed.is) c.argument_step.ensures w.count-is
      | in-Respelt w ↦ step_respelt base _ _ _ (sym c.keyword.ensures ∙ w.in-Respelt.is) c.argument_step.ensures w.count-is
    ]
