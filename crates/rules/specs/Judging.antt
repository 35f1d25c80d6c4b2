-- "Judging": the class and the marks of each record, and what they come to, over the list of records.
-- Assumes nothing.
use Rattle.std.specs.Prelude.{ℕ, ◌+◌, ◌*◌, Bool, false, cond, not, ◌&&◌, ◌||◌, List, [], ◌∷◌, eqb, take}
use Rattle.rules.specs.declared.Class.{Class}
use Rattle.rules.specs.declared.Class.TheVariants.{Credited, Void, Duplicate, Error}
use Rattle.rules.specs.declared.Verdict.{Verdict}
use Rattle.rules.specs.declared.Modes.{Modes}
use Rattle.rules.specs.declared.Totals.{Totals}
use Rattle.rules.specs.Text.{Text, bytes, same, empty, value}
use Rattle.rules.specs.Rules.{Rules}
use Rattle.rules.specs.Fields.{Qso, is_error, new_mark, duplicate_mark}
use Rattle.rules.specs.Arguments.{part}
use Rattle.rules.specs.Log.{Log, argument}

-- "0 credited, 1 void, 2 duplicate, 3 error"
unfoldable pub class_number : Class → ℕ
class_number Credited = 0
class_number Void = 1
class_number Duplicate = 2
class_number Error = 3

unfoldable pub is : Class → Class → Bool
unfolding class_number
is class other = eqb (class_number class) (class_number other)

-- Some record of the list passes the test.
unfoldable pub some : (Qso → Bool) → List Qso → Bool
some f [] = false
some f (q ∷ qs) = f q || some f qs

-- "Void: otherwise, if points are 0": a record claims points otherwise.
unfoldable pub claims_points : Qso → Bool
unfolding value
claims_points q = not (eqb (value q.points) 0)

-- "has the same call, byte for byte": by the rules of document 01 the home part of a call is the call.
abbrev pub same_call : Rules → Text → Text → Bool
same_call R call other = same (R.home call) (R.home other)

-- "some earlier credited record has the same call", of a record after these credited ones.
unfoldable pub worked : Rules → List Qso → Qso → Bool
unfolding some same
worked R credited q = some (λ e. same_call R e.call q.call) credited

-- W3: "a duplicate needs points or a claimed D".
unfoldable pub claims_duplicate : Qso → Bool
unfolding same duplicate_mark
claims_duplicate q = same q.duplicate duplicate_mark

unfoldable pub may_repeat : Qso → Bool
unfolding claims_points claims_duplicate
may_repeat q = claims_points q || claims_duplicate q

-- The class of a record after these credited ones:
-- "Error: the call is ERROR."
-- "Duplicate: otherwise, if some earlier credited record has the same call, byte for byte", which W3 replaces: "A record with 0 points and no D is
-- void even if its call was credited before; a duplicate needs points or a claimed D."
-- "Void: otherwise, if points are 0."
-- "Credited: otherwise."
unfoldable pub class_of : Rules → List Qso → Qso → Class
unfolding is_error may_repeat worked claims_points
class_of R credited q =
    cond (is_error q) Error
    (cond (may_repeat q && worked R credited q) Duplicate
    (cond (claims_points q) Credited Void))

-- "a square is the first four characters of the received locator"
unfoldable pub square : Qso → Text
square q = take 4 q.locator

-- The exchange that counts: any that is received, if it is not empty.
abbrev pub exchange_of : Rules → Qso → Text
exchange_of R q = q.exchange

-- "Among credited records: .. the first record with it is new; likewise for a non-empty received exchange."
unfoldable pub is_new : (Qso → Text) → List Qso → Qso → Bool
unfolding same some
is_new of credited q = not (empty (of q)) && not (some (λ e. same (of e) (of q)) credited)

-- "Countries are counted by the claimed New-DXCC marks on credited records."
unfoldable pub claims_country : Qso → Bool
unfolding same new_mark
claims_country q = same q.new_country new_mark

-- What is said of a record: marks are of credited records alone.
unfoldable pub verdict_of : Rules → List Qso → Qso → Verdict
unfolding class_of is is_new square claims_country
verdict_of R credited q =
    let class = class_of R credited q in
    let counts = is Credited class in
    record {
      class = class;
      exchange = counts && is_new (exchange_of R) credited q;
      square = counts && is_new square credited q;
      country = counts && claims_country q;
    }

-- The credited records so far, after one more.
unfoldable pub credited_after : Class → Qso → List Qso → List Qso
unfolding is
credited_after class q credited = cond (is Credited class) (q ∷ credited) credited

-- The verdicts of the records that come after these credited ones, and of all the records of a log.
unfoldable pub verdicts_after : Rules → List Qso → List Qso → List Verdict
unfolding verdict_of credited_after
verdicts_after R credited [] = []
verdicts_after R credited (q ∷ qs) =
    let v = verdict_of R credited q in v ∷ verdicts_after R (credited_after v.class q credited) qs

unfoldable pub verdicts : Rules → List Qso → List Verdict
unfolding verdicts_after
verdicts R qs = verdicts_after R [] qs

-- "A verdict is one number for a record: 0 credited, 1 void, 2 duplicate, 3 error, plus 16, 32, 64 for new exchange, square, country."
unfoldable pub verdict_number : Verdict → ℕ
unfolding class_number
verdict_number v =
    class_number v.class
    + cond v.exchange 16 0
    + cond v.square 32 0
    + cond v.country 64 0

-- How many verdicts pass a test: "four counts, each defined over the list of records".
unfoldable pub count_of : (Verdict → Bool) → List Verdict → ℕ
count_of f [] = 0
count_of f (v ∷ vs) = cond (f v) 1 0 + count_of f vs

-- The sum of a number over the credited records.
unfoldable pub credited_sum : (Qso → ℕ) → List Qso → List Verdict → ℕ
unfolding is
credited_sum f [] vs = 0
credited_sum f (q ∷ qs) [] = 0
credited_sum f (q ∷ qs) (v ∷ vs) = cond (is Credited v.class) (f q) 0 + credited_sum f qs vs

-- "P is the sum of credited points."
abbrev pub credited_points : List Qso → List Verdict → ℕ
credited_points qs vs = credited_sum (λ q. value q.points) qs vs

-- W4: "a count of credited records for each mode code and for a blank mode": how many of them have this mode.
abbrev pub credited_in : Text → List Qso → List Verdict → ℕ
credited_in mode qs vs = credited_sum (λ q. cond (same q.mode mode) 1 0) qs vs

unfoldable pub modes_of : List Qso → List Verdict → Modes
unfolding credited_sum same
modes_of qs vs =
    record {
      code0 = credited_in (bytes "0") qs vs;
      code1 = credited_in (bytes "1") qs vs;
      code2 = credited_in (bytes "2") qs vs;
      code3 = credited_in (bytes "3") qs vs;
      code4 = credited_in (bytes "4") qs vs;
      code5 = credited_in (bytes "5") qs vs;
      code6 = credited_in (bytes "6") qs vs;
      code7 = credited_in (bytes "7") qs vs;
      code8 = credited_in (bytes "8") qs vs;
      code9 = credited_in (bytes "9") qs vs;
      blank = credited_in (bytes "") qs vs;
    }

-- "eleven numbers in all .. codes 0 to 9 and then blank"
unfoldable pub mode_numbers : Modes → List ℕ
mode_numbers m =
    m.code0
    ∷ m.code1
    ∷ m.code2
    ∷ m.code3
    ∷ m.code4
    ∷ m.code5
    ∷ m.code6
    ∷ m.code7
    ∷ m.code8
    ∷ m.code9
    ∷ m.blank
    ∷ []

-- All eleven together.
unfoldable pub modes_together : Modes → ℕ
modes_together m =
    m.code0
    + m.code1
    + m.code2
    + m.code3
    + m.code4
    + m.code5
    + m.code6
    + m.code7
    + m.code8
    + m.code9
    + m.blank

-- The bonuses and multipliers of "CWWLs, CExcs, CDXCs: count, bonus, multiplier".
pub record Declared : Type 0 where
  pub square_bonus : ℕ
  pub square_multiplier : ℕ
  pub exchange_bonus : ℕ
  pub exchange_multiplier : ℕ
  pub country_bonus : ℕ
  pub country_multiplier : ℕ

unfoldable pub declared : Log → Declared
unfolding argument part value
declared log =
    let squares = argument log (bytes "CWWLs") in
    let exchanges = argument log (bytes "CExcs") in
    let countries = argument log (bytes "CDXCs") in
    record {
      square_bonus = value (part 1 squares);
      square_multiplier = value (part 2 squares);
      exchange_bonus = value (part 1 exchanges);
      exchange_multiplier = value (part 2 exchanges);
      country_bonus = value (part 1 countries);
      country_multiplier = value (part 2 countries);
    }

unfoldable pub multipliers : Declared → ℕ
multipliers d = d.square_multiplier * d.exchange_multiplier * d.country_multiplier

-- "Total = (P + three bonuses) x the three declared multipliers of CWWLs, CExcs and CDXCs; the band multiplier takes no part": by P and the
-- numbers of new squares, exchanges and countries.
abbrev pub total_by : Rules → Declared → ℕ → ℕ → ℕ → ℕ → ℕ
total_by R d p squares exchanges countries =
    (p + squares * d.square_bonus + exchanges * d.exchange_bonus + countries * d.country_bonus) * multipliers d

-- "A bonus is the number of new ones times the declared bonus."
unfoldable pub totals_of : Rules → Declared → List Qso → List Verdict → Totals
unfolding multipliers count_of is credited_sum value modes_of
totals_of R d qs vs =
    let p = credited_points qs vs in
    let squares = count_of (λ v. v.square) vs in
    let exchanges = count_of (λ v. v.exchange) vs in
    let countries = count_of (λ v. v.country) vs in
    record {
      credited = count_of (λ v. is Credited v.class) vs;
      voids = count_of (λ v. is Void v.class) vs;
      duplicates = count_of (λ v. is Duplicate v.class) vs;
      errors = count_of (λ v. is Error v.class) vs;
      points = p;
      squares = squares;
      exchanges = exchanges;
      countries = countries;
      squarebonus = squares * d.square_bonus;
      exchangebonus = exchanges * d.exchange_bonus;
      countrybonus = countries * d.country_bonus;
      total = total_by R d p squares exchanges countries;
      modes = modes_of qs vs;
    }

unfoldable pub totals : Rules → Declared → List Qso → Totals
unfolding totals_of verdicts
totals R d qs = totals_of R d qs (verdicts R qs)

-- What a log is judged to be.
unfoldable pub verdicts_of_log : Rules → Log → List Verdict
unfolding verdicts
verdicts_of_log R log = verdicts R log.records

unfoldable pub totals_of_log : Rules → Log → Totals
unfolding totals declared
totals_of_log R log = totals R (declared log) log.records

-- What nothing comes to.
unfoldable pub zero_modes : Modes
zero_modes =
    record {
      code0 = 0;
      code1 = 0;
      code2 = 0;
      code3 = 0;
      code4 = 0;
      code5 = 0;
      code6 = 0;
      code7 = 0;
      code8 = 0;
      code9 = 0;
      blank = 0;
    }

unfoldable pub zero_totals : Totals
unfolding zero_modes
zero_totals =
    record {
      credited = 0;
      voids = 0;
      duplicates = 0;
      errors = 0;
      points = 0;
      squares = 0;
      exchanges = 0;
      countries = 0;
      squarebonus = 0;
      exchangebonus = 0;
      countrybonus = 0;
      total = 0;
      modes = zero_modes;
    }
