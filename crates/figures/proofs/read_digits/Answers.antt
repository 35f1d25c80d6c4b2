-- The digits are read as the definition says, one after another, and what they write fits.
use Prim.Native.Nat.{ℕ, ◌^◌, ◌≤◌, ◌<◌}
use native.Mathlib.Omega.{arith}
use mathlib.Core.Bool.{true}
use mathlib.Core.Path.{◌≡◌, refl, sym, ap, ◌∙◌}
use lib.ListN.{get_or}
use Rattle.rules.specs.Text.{digit}
use Rattle.rules.proofs.NumberLaws.{below_power}
use Rattle.figures.specs.Figure.{digits_at}
use Rattle.figures.proofs.NumberLaws.{digits_more, digits_enough, digits_stop, digits_end, below_none, below_more, digit_most}
use Rattle.figures.proofs.read_digits.Goals.{then-left-eq0-via-then-left-eq0, then-left-eq0-via-else-left-eq0+then-not-is_digit}
use Rattle.figures.proofs.read_digits.Goals as goal

-- In a turn that goes on: the character is a digit, and the value has room for it.
digit_here : (c : goal.Else-not-is_digit) → digit (get_or c.args.s.now c.loop-i.i 0) ≡ true
digit_here c = sym c.is_digit.ensures ∙ c.if-not-is_digit.false

nine_here : (c : goal.Else-not-is_digit) → get_or c.args.s.now c.loop-i.i 0 ≤ 57
nine_here c = digit_most _ (digit_here c)

small_here : (c : goal.Else-not-is_digit) → c.loop-i.value < 10 ^ 18
small_here c = below_power _ 18 (omega arith) c.loop-i.invariant.1

pub loop-i-init : goal.loop-i-init
unfolding digits_at
loop-i-init c = (omega arith, below_none c.args.most, refl, omega arith)

pub returns-then-left-eq0 : goal.returns-then-left-eq0
returns-then-left-eq0 c =
    elim c.then-left-eq0.branch [
      | then-left-eq0-via-then-left-eq0 w ↦ digits_enough _ _ _ _ w.if-left-eq0.true ∙ sym c.loop-i.invariant.2
      | then-left-eq0-via-else-left-eq0+then-not-is_digit w ↦
          digits_stop _ _ _ _ c.loop-i-test.true (sym w.is_digit.ensures ∙ w.if-not-is_digit.true) ∙ sym c.loop-i.invariant.2
    ]

pub overflow_mul-value : goal.overflow_mul-value
overflow_mul-value c = omega (arith, small_here c)

pub overflow_add-value : goal.overflow_add-value
overflow_add-value c = omega (arith, small_here c, nine_here c)

pub loop-i-preserved : goal.loop-i-preserved
loop-i-preserved c = (
  omega arith,
  below_more _ _ _ _ (omega arith) (omega arith) c.loop-i.invariant.1 (omega (arith, nine_here c)),
  c.loop-i.invariant.2 ∙ digits_more _ _ _ _ (omega arith) c.loop-i-test.true (digit_here c),
  omega arith,
)

pub returns : goal.returns
returns c =
    let end : c.max.result ≡ c.loop-i.i = omega arith in
    ap (λ (n : ℕ). (c.loop-i.value, n)) end ∙ digits_end _ _ _ _ c.loop-i-test.false ∙ sym c.loop-i.invariant.2
