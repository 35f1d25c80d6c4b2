-- A line in front of the records is taken or refused as its step says.
use mathlib.Core.Path.{◌≡◌, sym, ap, ◌∙◌}
use Rattle.rules.specs.Rules.{base}
use Rattle.rules.specs.Text.{Text}
use Rattle.rules.specs.declared.Due.{Due}
use Rattle.rules.specs.Reading.{step}
use Rattle.reader.specs.declared.Stepped.{Stepped}
use Rattle.reader.specs.Read.{step_of}
use Rattle.reader.proofs.HeadLaws.{stepped_next}
use Rattle.link.specs.declared.Link.{Link}
use Rattle.link.specs.Link.{due_of}
use Rattle.link.proofs.TakenLaws.{head_stops, head_on}
use Rattle.link.proofs.head_line.Goals as goal

stepped : (s : Link) (l : Text) {due : Due} {r : Stepped} → due ≡ due_of s → r ≡ step_of base 0 due l → step base (due_of s) l ≡ r.next
stepped s l p q = ap (λ (d : Due). step base d l) (sym p) ∙ stepped_next base 0 _ l q

pub returns-in-Err : goal.returns-in-Err
returns-in-Err c = c.stopped_here.ensures ∙ head_stops base _ _ _ _ (stepped c.args.s c.args.line.now c.due_of.ensures c.step.ensures ∙ c.in-Err.is)

pub returns-in-Ok : goal.returns-in-Ok
returns-in-Ok c = c.head_goes.ensures ∙ head_on base _ _ _ _ (stepped c.args.s c.args.line.now c.due_of.ensures c.step.ensures ∙ c.in-Ok.is)
