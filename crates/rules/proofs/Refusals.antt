-- Every input gets an answer; a refusal has a number, a line and a field, and leaves what was lent as it was.
-- Assumes nothing.
use Prim.Native.Nat.{ℕ, suc, ◌+◌, ◌≤◌, ◌-◌}
use mathlib.Core.Path.{◌≡◌, refl, subst}
use mathlib.Core.Logic.{◌⊎◌, inl, inr}
use mathlib.Core.Bool.{Bool, true, false, cond, ◌&&◌}
use mathlib.Core.List.{List, [], ◌∷◌}
use lib.Dec.{ltb, eqb}
use lib.ListN.{length, take, drop}
use native.Mathlib.Omega.{arith}
use native.Mathlib.Nat.{le_refl}
use Rattle.std.specs.Prelude.{Result, Ok, Err}
use Rattle.rules.specs.declared.Fault.{Fault}
use Rattle.rules.specs.declared.Refusal.{Refusal}
use Rattle.rules.specs.declared.Due.{Due}
use Rattle.rules.specs.declared.Due.TheVariants.{Identifier, Keyword, Remarks, Remark, Record, End}
use Rattle.rules.specs.Text.{Text, bytes, digit, span, same, begins, parts, value, number_from}
use Rattle.rules.specs.Rules.{Rules}
use Rattle.rules.specs.Fields.{field_rules, qso_of}
use Rattle.rules.specs.Arguments.{Entry, entries, meets}
use Rattle.rules.specs.Log.{Log, identifier, remarks_line, count_start}
use Rattle.rules.specs.Reading.{RecordRule, keeps, breaks, first_broken, record_rule, records_due, whole, argument_on, has_keyword, keyword_line, keyword_due, count_rule, after_record, step, Reading, accepted, refused, refusal, at_rest, put, on_next, lines, walk, read, fault}
use Rattle.rules.specs.Answers.{records_of_reading, respelt_of_reading, totals_of_judgement, numbers_of_judgement, bytes_of_writing, start_of_view, viewed, listed_of_view, over}
use Rattle.rules.specs.Demands.{EveryInputGetsAnAnswer, OfALine, RefusedWithNumberLineField, RefusedJudgingChangesNothing, RefusedWritingChangesNothing, RefusedViewIsEmpty, RefusedReadingHasNoRecords}

pub every_input : (R : Rules) → EveryInputGetsAnAnswer R
every_input R s = by (read R s) refl
  where
    by : (a : Reading) → read R s ≡ a → ((log : Log) × (read R s ≡ accepted log)) ⊎ ((r : Refusal) × (read R s ≡ refused r))
    by (accepted log) e = inl (log, e)
    by (refused r) e = inr (r, e)

-- The number of a line's refusal is 2 to 6, and its field none or, in 5 alone, one of fifteen; of a record line too.
abbrev pub Numbered : ℕ → ℕ → Type 0
Numbered number field = (2 ≤ number) × (number ≤ 6) × (field ≤ 15) × ((number ≡ 5 → ⊥) → field ≡ 0)

abbrev pub FieldIsOne : RecordRule → Type 0
FieldIsOne keeps = Unit {0}
FieldIsOne (breaks field) = field ≤ 15

broken_field : (n : ℕ) (bs : List Bool) → n + length bs ≤ 16 → FieldIsOne (first_broken n bs)
unfolding first_broken
broken_field n [] h = tt
broken_field n (true ∷ bs) h = broken_field (suc n) bs (omega arith)
broken_field n (false ∷ bs) h = omega arith

-- # What a step can be

-- What holds of every step: of each thing that can be due next, and of each refusal.
pub record OfStep (P : Result Due Fault → Type 0) : Type 0 where
  pub keyword : (k : ℕ) → P (Ok (Keyword k))
  pub remarks : P (Ok Remarks)
  pub remark : P (Ok Remark)
  pub records : (n : ℕ) → P (Ok (records_due n))
  pub three : P (Err (fault 3 0))
  pub four : P (Err (fault 4 0))
  pub five : (field : ℕ) → field ≤ 15 → P (Err (fault 5 field))
  pub six : P (Err (fault 6 0))

pub on_test : {A : Type 0} (P : A → Type 0) (b : Bool) {x y : A} → P x → P y → P (cond b x y)
on_test P true p q = p
on_test P false p q = q

module _ (R : Rules) where
  pub rule_field : (l : Text) → FieldIsOne (record_rule R l)
  unfolding record_rule
  rule_field l = by (eqb (length (parts l)) 15)
    where
      by : (b : Bool) → FieldIsOne (cond b (first_broken 1 (field_rules R (qso_of (parts l)))) (breaks 0))
      by true = broken_field 1 (field_rules R (qso_of (parts l))) (omega arith)
      by false = omega arith

  module _ (P : Result Due Fault → Type 0) (o : OfStep P) where
    of_record : (n : ℕ) (r : RecordRule) → FieldIsOne r → P (after_record n r)
    unfolding after_record
    of_record n keeps h = o.records (n - 1)
    of_record n (breaks field) h = o.five field h

    of_keyword : (e : Entry) (l : Text) (next : Due) → P (Ok next) → P (keyword_line R e l next)
    unfolding keyword_line
    of_keyword e l next p =
        on_test P (has_keyword e l) (on_test P (meets R e.rule (argument_on e l)) p o.four) o.three

    of_keywords : (es : List Entry) (k : ℕ) (l : Text) → P (keyword_due R es k l)
    unfolding keyword_due
    of_keywords [] k l = o.three
    of_keywords (e ∷ []) k l = of_keyword e l Remarks o.remarks
    of_keywords (e ∷ f ∷ es) k l = of_keyword e l (Keyword (k + 1)) (o.keyword (k + 1))

    of_whole : (due l : Text) (next : Due) → P (Ok next) → P (whole due l next)
    unfolding whole
    of_whole due l next p = on_test P (same l due) p o.three

    of_count : (t : Text) → P (count_rule R t)
    unfolding count_rule
    of_count t =
        let n = span digit t in
        on_test P (number_from 0 R.most_records (take n t) && same (drop n t) (bytes "]")) (o.records (value (take n t))) o.four

    pub of_step : (due : Due) (l : Text) → P (step R due l)
    unfolding step
    of_step Identifier l = of_whole identifier l (Keyword 0) (o.keyword 0)
    of_step (Keyword k) l = of_keywords (drop k entries) k l
    of_step Remarks l = of_whole remarks_line l Remark o.remark
    of_step Remark l = on_test P (begins count_start l) (of_count (drop (length count_start) l)) o.remark
    of_step (Record n) l = of_record n (record_rule R l) (rule_field l)
    of_step End l = o.six

-- # The numbers

abbrev pub StopsNumbered : Result Due Fault → Type 0
StopsNumbered (Ok due) = Unit {0}
StopsNumbered (Err e) = Numbered e.number e.field

-- Any number but 5 comes with no field.
no_field : (number : ℕ) → 2 ≤ number → number ≤ 6 → Numbered number 0
no_field number h k = (h, k, omega arith, λ n. refl)

pub two : Numbered 2 0
two = no_field 2 (omega arith) (omega arith)

three : Numbered 3 0
three = no_field 3 (omega arith) (omega arith)

four : Numbered 4 0
four = no_field 4 (omega arith) (omega arith)

pub six : Numbered 6 0
six = no_field 6 (omega arith) (omega arith)

pub step_numbered : (R : Rules) (due : Due) (l : Text) → StopsNumbered (step R due l)
step_numbered R due l =
    of_step R StopsNumbered
    (record {
      keyword = λ k. tt;
      remarks = tt;
      remark = tt;
      records = λ n. tt;
      three = three;
      four = four;
      five = λ field h. (omega arith, omega arith, h, λ k. absurd (k refl));
      six = six;
    })
    due l

-- The line is one of the text, or the one that is missing behind them.
abbrev pub Placed : ℕ → Reading → Type 0
Placed most (accepted log) = Unit {0}
Placed most (refused r) = (1 ≤ r.line) × (r.line ≤ most) × Numbered r.number r.field

pub rest_placed : (due : Due) (n : ℕ) (rest : Text) → 1 ≤ n → Placed n (at_rest due n rest)
unfolding at_rest
rest_placed Identifier n rest h = (h, le_refl n, two)
rest_placed (Keyword k) n rest h = (h, le_refl n, two)
rest_placed Remarks n rest h = (h, le_refl n, two)
rest_placed Remark n rest h = (h, le_refl n, two)
rest_placed (Record m) n [] h = (h, le_refl n, six)
rest_placed (Record m) n (c ∷ rest) h = (h, le_refl n, two)
rest_placed End n [] h = tt
rest_placed End n (c ∷ rest) h = (h, le_refl n, six)

put_placed : (most : ℕ) (due : Due) (l : Text) (a : Reading) → Placed most a → Placed most (put due l a)
unfolding put
put_placed most due l (accepted log) p = tt
put_placed most due l (refused r) p = p

later_placed : (most more : ℕ) (a : Reading) → most ≤ more → Placed most a → Placed more a
later_placed most more (accepted log) h p = tt
later_placed most more (refused r) h p = (p.0, omega (arith, p.1), p.2)

module _ (R : Rules) where
  walk_placed : (due : Due) (n : ℕ) (ls : List Text) (rest : Text) → 1 ≤ n → Placed (n + length ls) (walk R due n ls rest)
  unfolding walk
  walk_placed due n [] rest h = later_placed n (n + 0) (at_rest due n rest) (omega arith) (rest_placed due n rest h)
  walk_placed due n (l ∷ ls) rest h = on (λ next. walk_placed next (n + 1) ls rest (omega arith)) (step R due l) (step_numbered R due l)
    where
      on : ((next : Due) → Placed (n + 1 + length ls) (walk R next (n + 1) ls rest)) → (m : Result Due Fault) → StopsNumbered m → Placed (n + suc (length ls)) (on_next (λ next. walk R next (n + 1) ls rest) n due l m)
      on more (Ok next) p =
          let a = walk R next (n + 1) ls rest in
          put_placed (n + suc (length ls)) due l a (later_placed (n + 1 + length ls) (n + suc (length ls)) a (omega arith) (more next))
      on more (Err e) p = (h, omega arith, p)

  abbrev Told : Text → Reading → Type 0
  Told s (accepted log) = Unit {0}
  Told s (refused r) = (r ≡ refusal 1 0 0) ⊎ Placed (length (lines R s).whole + 1) (refused r)

  told_placed : (s : Text) (a : Reading) → Placed (length (lines R s).whole + 1) a → Told s a
  told_placed s (accepted log) p = tt
  told_placed s (refused r) p = inr p

  read_placed : (s : Text) → Told s (read R s)
  unfolding read
  read_placed s = by (ltb R.longest_log (length s))
    where
      by : (b : Bool) → Told s (cond b (refused (refusal 1 0 0)) (walk R Identifier 1 (lines R s).whole (lines R s).rest))
      by true = inl refl
      by false =
          let n = length (lines R s).whole in
          let a = walk R Identifier 1 (lines R s).whole (lines R s).rest in
          told_placed s a
          (later_placed (1 + n) (n + 1) a (omega arith) (walk_placed Identifier 1 (lines R s).whole (lines R s).rest (omega arith)))

pub refused_with : (R : Rules) → RefusedWithNumberLineField R
refused_with R s r e = named (subst (λ (a : Reading). Told R s a) e (read_placed R s))
  where
    named : Told R s (refused r) → (r ≡ refusal 1 0 0) ⊎ OfALine (length (lines R s).whole) r
    named (inl p) = inl p
    named (inr (low, high, (two, six, field, alone))) =
        inr (record { number = (two, six); line = (low, high); field = field; in_five_alone = alone })

-- What a refused call leaves.
pub refused_reading : (R : Rules) → RefusedReadingHasNoRecords R
unfolding records_of_reading respelt_of_reading
refused_reading R s r e = rw e (refl, refl)

pub refused_judging : (R : Rules) → RefusedJudgingChangesNothing R
unfolding totals_of_judgement numbers_of_judgement over
refused_judging R s slice r e = rw e (refl, refl)

pub refused_writing : (R : Rules) → RefusedWritingChangesNothing R
unfolding bytes_of_writing over
refused_writing R s slice r e = rw e (refl, refl)

pub refused_view : (R : Rules) → RefusedViewIsEmpty R
unfolding start_of_view viewed listed_of_view
refused_view R s k r e = rw e (refl, refl, refl)
