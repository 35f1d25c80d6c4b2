-- What the judge tells of an accepted log is what writing asks for, and a refusal is the reader's.
use mathlib.Core.List.{List}
use mathlib.Core.Path.{◌≡◌, refl, sym, ◌∙◌}
use lib.ListN.{length, replicate, take}
use lib.Seq.{length-take-le}
use native.Mathlib.Omega.{arith}
use Rattle.std.specs.Prelude.{ℕ, ◌≤◌, Result, Ok, Err}
use Rattle.judge.specs.Judge.{weighed_of, verdicts_afterwards}
use Rattle.judge.specs.declared.Weighed.{Weighed}
use Rattle.reader.proofs.WholeLaws.{contacts_accepted}
use Rattle.reader.specs.Noted.{contacts_read, listed}
use Rattle.reader.specs.declared.Contact.{Contact}
use Rattle.rules.specs.Rules.{base}
use Rattle.rules.specs.Text.{Text}
use Rattle.rules.specs.declared.Refusal.{Refusal}
use Rattle.writer.proofs.WeighedLaws.{many_numbers, many_places_lem, writable, unread_answer, unread_slice}
use Rattle.writer.proofs.write.Goals as goal

-- The lists are empty at first.
abbrev empty : List ℕ
empty = replicate 999 0

-- Each list that was noted has a place for each record; and so many stand in front of it.
module _ (s : Text) {a : Result Weighed Refusal} {w : Weighed} (told : a ≡ weighed_of base 999 s) (is : a ≡ Ok w) where
  places : (place : Contact → ℕ) {list : List ℕ} → list ≡ listed place (contacts_read base s) empty → w.records ≤ length list
  unfolding base
  places place e = many_places_lem base s (sym told ∙ is) (contacts_accepted base s) place empty refl e

  front : (place : Contact → ℕ) {list : List ℕ} → list ≡ listed place (contacts_read base s) empty → w.records ≡ length (take w.records list)
  front place e = sym (length-take-le _ _ (places place e))

  numbers : {list : List ℕ} → list ≡ verdicts_afterwards base s empty → w.records ≤ length list
  unfolding base
  numbers e = many_numbers base s (sym told ∙ is) empty refl e

-- src/lib.rt:449:19
pub returns-in_err-weighed-clause-answer : goal.returns-in_err-weighed-clause-answer
unfolding base
returns-in_err-weighed-clause-answer c =
    let handed : c.from_residual.result ≡ Err c.in_err-weighed.field-0.0 = grind arith in
    handed ∙ unread_answer base _ (sym c.weigh.ensures.answer ∙ c.in_err-weighed.was) c.args.out.now

-- src/lib.rt:449:19
pub returns-in_err-weighed-clause-slice : goal.returns-in_err-weighed-clause-slice
unfolding base
returns-in_err-weighed-clause-slice c = unread_slice base _ (sym c.weigh.ensures.answer ∙ c.in_err-weighed.was) c.args.out.now

-- src/lib.rt:456:9
pub slice_bounds-points-end : goal.slice_bounds-points-end
slice_bounds-points-end c = places _ c.weigh.ensures.answer c.in_ok-weighed.was (λ c. c.points) c.weigh.ensures.points

-- src/lib.rt:456:9
pub slice_bounds-write_weighed-end : goal.slice_bounds-write_weighed-end
slice_bounds-write_weighed-end c = front _ c.weigh.ensures.answer c.in_ok-weighed.was (λ c. c.points) c.weigh.ensures.points

-- src/lib.rt:457:9
pub slice_bounds-pointsends-end : goal.slice_bounds-pointsends-end
slice_bounds-pointsends-end c = places _ c.weigh.ensures.answer c.in_ok-weighed.was (λ c. c.pointsend) c.weigh.ensures.pointsends

-- src/lib.rt:457:9
pub slice_bounds-write_weighed-end-2 : goal.slice_bounds-write_weighed-end-2
slice_bounds-write_weighed-end-2 c = front _ c.weigh.ensures.answer c.in_ok-weighed.was (λ c. c.pointsend) c.weigh.ensures.pointsends

-- src/lib.rt:458:9
pub slice_bounds-ends-end : goal.slice_bounds-ends-end
slice_bounds-ends-end c = places _ c.weigh.ensures.answer c.in_ok-weighed.was (λ c. c.end) c.weigh.ensures.ends

-- src/lib.rt:458:9
pub slice_bounds-write_weighed-end-3 : goal.slice_bounds-write_weighed-end-3
slice_bounds-write_weighed-end-3 c = front _ c.weigh.ensures.answer c.in_ok-weighed.was (λ c. c.end) c.weigh.ensures.ends

-- src/lib.rt:459:9
pub slice_bounds-verdicts-end : goal.slice_bounds-verdicts-end
slice_bounds-verdicts-end c = numbers _ c.weigh.ensures.answer c.in_ok-weighed.was c.weigh.ensures.slice

-- src/lib.rt:459:9
pub slice_bounds-write_weighed-end-4 : goal.slice_bounds-write_weighed-end-4
slice_bounds-write_weighed-end-4 c = sym (length-take-le _ _ (numbers _ c.weigh.ensures.answer c.in_ok-weighed.was c.weigh.ensures.slice))

-- src/lib.rt:451:5
pub write_weighed-requires : goal.write_weighed-requires
unfolding base
write_weighed-requires c =
    let e = c.weigh.ensures in
    writable base _ (sym e.answer ∙ c.in_ok-weighed.was) (contacts_accepted base _) empty empty empty empty refl refl refl refl e.slice e.points e.pointsends e.ends
