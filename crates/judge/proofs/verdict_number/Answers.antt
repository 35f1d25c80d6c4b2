-- The number of a verdict: that of its class, which is its place among the classes, and what each mark adds.
use denote.Enum.Declared.{tag_of}
use mir.Val.{bool_byte}
use Rattle.std.proofs.Common.{ℕ, Bool, true, false, ◌+◌, ◌*◌, ◌≡◌, refl}
use Rattle.std.specs.Prelude.{cond}
use Rattle.rules.specs.contracts.Class.{the_type}
use Rattle.rules.specs.declared.Class.{Class}
use Rattle.rules.specs.declared.Class.TheVariants.{Credited, Void, Duplicate, Error}
use Rattle.rules.specs.declared.Verdict.{Verdict}
use Rattle.rules.specs.Judging.{class_number, verdict_number}
use Rattle.judge.proofs.verdict_number.Goals as goal

place : (class : Class) → tag_of the_type class ≡ class_number class
unfolding class_number
place Credited = refl
place Void = refl
place Duplicate = refl
place Error = refl

-- The marks, each by what is told of it: 1 or 0, so many times.
numbered : (v : Verdict) {n x y z : ℕ} → n ≡ class_number v.class → x ≡ bool_byte v.exchange → y ≡ bool_byte v.square → z ≡ bool_byte v.country → n + x * 16 + y * 32 + z * 64 ≡ verdict_number v
unfolding verdict_number
numbered v a b c d = rw (a, b, c, d, exchange v.exchange, square v.square, country v.country) refl
  where
    exchange : (b : Bool) → bool_byte b * 16 ≡ cond b 16 0
    exchange true = refl
    exchange false = refl

    square : (b : Bool) → bool_byte b * 32 ≡ cond b 32 0
    square true = refl
    square false = refl

    country : (b : Bool) → bool_byte b * 64 ≡ cond b 64 0
    country true = refl
    country false = refl

pub returns : goal.returns
returns c = numbered c.args.v (place c.args.v.class) c.from.ensures c.from-2.ensures c.from-3.ensures
