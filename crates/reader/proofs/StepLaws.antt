-- Laws of the steps over a line: the count line, and a keyword's line.
-- Assumes nothing.
use Prim.Native.Nat.{ℕ, zero, suc, ◌+◌, ◌-◌, ◌≤◌}
use native.Mathlib.Omega.{arith}
use native.Mathlib.Nat.{zero-add}
use mathlib.Core.Path.{◌≡◌, refl, sym, ap, ◌∙◌}
use mathlib.Core.Bool.{Bool, true, false, cond, ◌&&◌}
use lib.ListN.{length, take, drop, length-drop}
use lib.Seq.{take-length, length-take-le}
use Rattle.std.specs.Prelude.{None, Some, Result, Ok, Err}
use Rattle.rules.specs.declared.Fault.{Fault}
use Rattle.rules.specs.Text.{Text, bytes, digit, span, all, same, value, number_from}
use Rattle.rules.specs.Rules.{Rules}
use Rattle.rules.specs.declared.Due.{Due}
use Rattle.rules.specs.Reading.{records_due, count_rule, fault}
use Rattle.rules.proofs.TextLaws.{span_all, span_short}
use Rattle.rules.proofs.Tests.{and_i}
use Rattle.rules.proofs.WalkLaws.{one_test}
use Rattle.fields.specs.Field.{in_field, text_at}
use Rattle.fields.proofs.FieldLaws.{next}
use Rattle.figures.specs.Figure.{number_at}
use Rattle.figures.proofs.Picked.{number_picked, number_refused}
use Rattle.fields.proofs.PartLaws.{whole_span}
use Rattle.header.proofs.RuleLaws.{all_apart}

-- So many records.
pub none_due : (n : ℕ) → n ≡ 0 → Due.End ≡ records_due n
unfolding records_due
none_due n e = rw e

pub some_due : (n : ℕ) → (n ≡ 0 → ⊥) → Due.Record n ≡ records_due n
unfolding records_due
some_due zero e = absurd (e refl)
some_due (suc n) e = refl

-- Digits are one field.
digits_text : (s : Text) → all digit s ≡ true → text_at s 0 ≡ s
unfolding text_at
digits_text s e =
    ap (λ (n : ℕ). take n s) (whole_span in_field s (all_apart digit refl s e)) ∙ take-length s

-- The count line behind its front, by the number of its digits.
abbrev told_count : Rules → Text → ℕ → Result Due Fault
told_count R t n =
    cond (number_from 0 R.most_records (take n t) && same (drop n t) (bytes "]")) (Ok (records_due (value (take n t)))) (Err (fault 4 0))

count_law : (R : Rules) (t : Text) → told_count R t (span digit t) ≡ count_rule R t
unfolding count_rule
count_law R t = refl

module _ (R : Rules) (t : Text) (n : ℕ) (e : n ≡ 0 + span digit (drop 0 t)) where
  by_digits : n ≡ span digit t
  by_digits = e ∙ zero-add (span digit t)

  counted_by_lem : told_count R t n ≡ count_rule R t
  counted_by_lem = ap (told_count R t) by_digits ∙ count_law R t

  pub count_front : n ≤ length t
  count_front = omega (arith, by_digits, span_short digit t)

  pub front_length : n ≡ length (take n t)
  front_length = sym (length-take-le n t count_front)

  front_text : text_at (take n t) 0 ≡ take n t
  front_text = digits_text (take n t) (ap (λ (m : ℕ). all digit (take m t)) by_digits ∙ span_all digit t)

  -- What stands behind the digits, taken as a part.
  part_behind : take (length t - n) (drop n t) ≡ drop n t
  part_behind = let m : length t - n ≡ length (drop n t) = sym (length-drop n t) in ap (λ (k : ℕ). take k (drop n t)) m ∙ take-length (drop n t)

  -- It is not `]` alone.
  pub count_unclosed : same (take (length t - n) (drop n t)) (bytes "]") ≡ false → Err (fault 4 0) ≡ count_rule R t
  count_unclosed p =
      let other : same (drop n t) (bytes "]") ≡ false = ap (λ (s : Text). same s (bytes "]")) (sym part_behind) ∙ p in
      sym (ap (λ (b : Bool). cond (number_from 0 R.most_records (take n t) && b) (Ok (records_due (value (take n t)))) (Err (fault 4 0))) other ∙ stops (number_from 0 R.most_records (take n t)))
      ∙ counted_by_lem
    where
      stops : (b : Bool) → cond (b && false) (Ok (records_due (value (take n t)))) (Err (fault 4 0)) ≡ Err (fault 4 0)
      stops true = refl
      stops false = refl

  pub count_no_number : number_at (number_from 0 R.most_records) (take n t) 0 ≡ None → Err (fault 4 0) ≡ count_rule R t
  count_no_number h =
      sym (ap (λ (b : Bool). cond (b && same (drop n t) (bytes "]")) (Ok (records_due (value (take n t)))) (Err (fault 4 0))) (ap (number_from 0 R.most_records) (sym front_text) ∙ number_refused (number_from 0 R.most_records) (take n t) 0 h))
      ∙ counted_by_lem

  module _ {v f : ℕ} (h : number_at (number_from 0 R.most_records) (take n t) 0 ≡ Some (v, f)) where
    is_number : number_from 0 R.most_records (take n t) ≡ true
    is_number = ap (number_from 0 R.most_records) (sym front_text) ∙ (number_picked (number_from 0 R.most_records) (take n t) 0 h).0

    is_value : v ≡ value (take n t)
    is_value = (number_picked (number_from 0 R.most_records) (take n t) 0 h).1 ∙ ap value front_text

    pub count_known : {d : Due} → same (take (length t - n) (drop n t)) (bytes "]") ≡ true → d ≡ records_due v → Ok d ≡ count_rule R t
    count_known c q =
        let closed : same (drop n t) (bytes "]") ≡ true = ap (λ (s : Text). same s (bytes "]")) (sym part_behind) ∙ c in
        ap Ok (q ∙ ap records_due is_value)
        ∙ sym (ap (λ (b : Bool). cond b (Ok (records_due (value (take n t)))) (Err (fault 4 0))) (and_i is_number closed))
        ∙ counted_by_lem

-- What a test leads to.
pub goes_to : (b : Bool) (d next : Due) (x y : ℕ) → cond b (Ok d) (Err (fault x y)) ≡ Ok next → d ≡ next
goes_to b d next x y e = (one_test b d next x y e).1

pub counted_due : (R : Rules) (t : Text) (next : Due) → count_rule R t ≡ Ok next → (j : ℕ) × (next ≡ records_due j)
counted_due R t next e =
    let n = span digit t in
    (value (take n t), sym (goes_to (number_from 0 R.most_records (take n t) && same (drop n t) (bytes "]")) (records_due (value (take n t))) next 4 0 (count_law R t ∙ e)))
