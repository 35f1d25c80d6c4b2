-- A call on a link refuses with a number, a line and a field as document 01 has them, and a closing that refuses tells zero totals.
-- Assumes nothing.
use Prim.Native.Nat.{ℕ, ◌≤◌}
use native.Mathlib.Omega.{arith}
use mathlib.Core.Path.{◌≡◌, refl}
use mathlib.Core.Logic.{◌⊎◌, inl, inr}
use mathlib.Core.Bool.{◌&&◌}
use mathlib.Core.List.{[], ◌∷◌}
use lib.Dec.{ltb, eqb}
use lib.ListN.{length}
use Rattle.std.specs.Prelude.{Result, Ok, Err}
use Rattle.rules.specs.declared.Fault.{Fault}
use Rattle.rules.specs.declared.Refusal.{Refusal}
use Rattle.rules.specs.declared.Due.{Due}
use Rattle.rules.specs.declared.Due.TheVariants.{Identifier, Keyword, Remarks, Remark, Record, End}
use Rattle.rules.specs.Text.{Text, allowed}
use Rattle.rules.specs.Rules.{Rules}
use Rattle.rules.specs.Reading.{refusal, step, Reading, accepted, refused, at_rest}
use Rattle.rules.specs.Answers.{no_refusal}
use Rattle.rules.specs.Given.{LineAndField}
use Rattle.rules.specs.Link.{Link, opened, is_open, line_of, rest_of, stopped, Lent, is_short, goes_on, if_long, after_line, finishes, holding, no_line_here, behind_return, in_line, of_line, placed, counted, taken, byte_in, asked, bytes_in, feed, Closed, closed_by, closed_if, close}
use Rattle.rules.specs.LinkDemands.{PlacedRightly, RefusedAtLast}
use Rattle.rules.proofs.Refusals.{Numbered, two, six, on_test, StopsNumbered, step_numbered, Placed, rest_placed}
use Rattle.rules.proofs.GivenRefusals.{no_place}

-- # What is told of a line

-- A refusal of a line has its number, and a field in 5 alone.
pub at_line : (r : Refusal) → 1 ≤ r.line → Numbered r.number r.field → LineAndField r
at_line r h (least, most, few, alone) = record { no_line = λ k. no_line_lem k; a_line = λ k. h; no_field = alone; a_field = few }
  where
    no_line_lem : (r.number ≤ 1) ⊎ (7 ≤ r.number) → r.line ≡ 0
    no_line_lem (inl k) = absurd (omega arith)
    no_line_lem (inr k) = absurd (omega arith)

-- 1, 7 and 13 have neither line nor field, and no refusal has none.
pub none_told : LineAndField (refusal 0 0 0)
none_told = no_place 0 (inl (omega arith))

pub one_told : LineAndField (refusal 1 0 0)
one_told = no_place 1 (inl (omega arith))

pub seven_told : LineAndField (refusal 7 0 0)
seven_told = no_place 7 (inr (omega arith))

pub thirteen_told : LineAndField (refusal 13 0 0)
thirteen_told = no_place 13 (inr (omega arith))

-- # One byte

abbrev Told : Link → Type 0
Told k = LineAndField k.refusal

-- A refusal at the line that is coming.
told_here : (k : Link) (number field : ℕ) → Numbered number field → Told (stopped k (refusal number (line_of k) field))
unfolding stopped
told_here k number field h = at_line (refusal number (line_of k) field) (omega arith) h

told_two : (k : Link) → Told (no_line_here k)
unfolding no_line_here
told_two k = told_here k 2 0 two

module _ (R : Rules) (lent : Lent) where
  told_long : (k : Link) → Told k → Told (if_long lent k)
  unfolding if_long stopped
  told_long k p = on_test Told (is_short lent k.announced) seven_told p

  told_after_lem : (k : Link) (l : Text) (m : Result Due Fault) → StopsNumbered m → Told k → Told (after_line lent k l m)
  unfolding after_line goes_on
  told_after_lem k l (Ok next) h p = told_long (goes_on k l next) p
  told_after_lem k l (Err e) h p = told_here k e.number e.field h

  told_finished : (k : Link) → Told k → Told (finishes R lent k)
  unfolding finishes
  told_finished k p = told_after_lem k k.begun (step R k.due k.begun) (step_numbered R k.due k.begun) p

  told_line_lem : (k : Link) (b : ℕ) → Told k → Told (of_line R lent k b)
  unfolding of_line behind_return in_line holding
  told_line_lem k b p =
      on_test Told k.returned
      (on_test Told (eqb b 10) (told_finished k p) (told_two k))
      (on_test Told (eqb b 13) p (on_test Told (allowed b && ltb (length k.begun) R.longest_line) p (told_two k)))

  told_placed : (due : Due) (k : Link) (b : ℕ) → Told k → Told (placed R lent due k b)
  unfolding placed
  told_placed Identifier k b p = told_line_lem k b p
  told_placed (Keyword n) k b p = told_line_lem k b p
  told_placed Remarks k b p = told_line_lem k b p
  told_placed Remark k b p = told_line_lem k b p
  told_placed (Record n) k b p = told_line_lem k b p
  told_placed End k b p = told_here k 6 0 six

  told_byte : (k : Link) (b : ℕ) → Told k → Told (byte_in R lent k b)
  unfolding byte_in taken counted stopped
  told_byte k b p =
      on_test Told (is_open k)
      (on_test Told (ltb k.count R.longest_log) (told_placed k.due (counted k) b p) one_told)
      p

  -- # A call

  told_bytes : (s : Text) (k : Link) → Told k → Told (bytes_in R lent k s)
  unfolding bytes_in
  told_bytes [] k p = p
  told_bytes (b ∷ s) k p = told_bytes s (byte_in R lent k b) (told_byte k b p)

  told_asked : (k : Link) → Told k → Told (asked lent k)
  unfolding asked
  told_asked k p = on_test Told (is_open k) (told_long k p) p

  told_fed : (k : Link) (s : Text) → Told k → Told (feed R lent k s)
  unfolding feed
  told_fed k s p = told_bytes s (asked lent k) (told_asked k p)

  -- # The closing

  -- What it tells and what the state then keeps.
  abbrev ToldAtLast : Closed → Type 0
  ToldAtLast c = LineAndField c.refusal × LineAndField c.link.refusal

  told_rest : (k : Link) (a : Reading) → Placed (line_of k) a → ToldAtLast (closed_by R k a)
  unfolding closed_by stopped no_refusal
  told_rest k (accepted log) h = (none_told, thirteen_told)
  told_rest k (refused r) h = let told = at_line r h.0 h.2 in (told, told)

  told_closed : (k : Link) → Told k → ToldAtLast (close R lent k)
  unfolding close closed_if
  told_closed k p =
      let a = asked lent k in
      on_test ToldAtLast (is_open a)
      (told_rest a (at_rest a.due (line_of a) (rest_of a)) (rest_placed a.due (line_of a) (rest_of a) (omega arith)))
      (told_asked k p, told_asked k p)

  -- A refusal is told with zero totals, and kept.
  abbrev AtLast : Closed → Type 0
  AtLast c = (c.refusal.number ≡ 0 → ⊥) → RefusedAtLast c

  zero_rest : (k : Link) (a : Reading) → AtLast (closed_by R k a)
  unfolding closed_by stopped no_refusal
  zero_rest k (accepted log) n = absurd (n refl)
  zero_rest k (refused r) n = record { totals = refl; kept = refl }

  pub refused_at_last_lem : (k : Link) → AtLast (close R lent k)
  unfolding close closed_if
  refused_at_last_lem k =
      let a = asked lent k in
      on_test AtLast (is_open a) (zero_rest a (at_rest a.due (line_of a) (rest_of a))) (λ n. record { totals = refl; kept = refl })

pub placed_rightly_lem : (R : Rules) → PlacedRightly R
unfolding opened no_refusal
placed_rightly_lem R =
    record {
      opening = none_told;
      feeding = told_fed R;
      closing = λ lent k p. (told_closed R lent k p).0;
      closed = λ lent k p. (told_closed R lent k p).1;
    }
