-- What is told of a record: by its fields where they lie, of a line by itself, and of the place of a log where a record is due.
-- Assumes nothing.
use Rattle.std.specs.Prelude.{ℕ, zero, suc, ◌+◌, ◌-◌, ◌≤◌, ◌<◌, ◌≡◌, Bool, true, cond, not, ◌&&◌, ◌||◌, List, [], ◌∷◌, eqb, ltb, length, take, drop, get_or, Option, Some, None, Result, Ok, Err}
use Rattle.rules.specs.declared.Fault.{Fault}
use Rattle.rules.specs.Text.{Text, bytes, number_of, parts, same, semicolon}
use Rattle.rules.specs.Rules.{Rules}
use Rattle.rules.specs.Fields.{Qso, date_rule, field_rules, qso_of}
use Rattle.rules.specs.Reading.{FirstLine, RecordRule, a_line, breaks, fault, first_broken, first_line, keeps, no_line, record_rule}
use Rattle.rules.specs.Log.{conjunction}
use Rattle.rules.specs.Judging.{claims_duplicate}
use Rattle.fields.specs.Field.{end_of, text_at}
use Rattle.reader.specs.declared.Contact.{Contact}
use Rattle.reader.specs.Contact.{contact_at, Describes}

-- # The fields where they lie

-- The texts of so many fields from a place on, with a semicolon behind each.
unfoldable pub fields_from : Text → ℕ → ℕ → List Text
unfolding text_at end_of
fields_from s at zero = []
fields_from s at (suc n) = text_at s at ∷ fields_from s (end_of s at + 1) n

-- The record whose first fourteen fields begin at a place. Behind the last field no semicolon stands: it is told by where it ends.
unfoldable pub qso_at : Text → ℕ → Qso
unfolding qso_of fields_from
qso_at s at = qso_of (fields_from s at 14)

-- Whether each of these fourteen keeps its rule.
unfoldable pub rules_at : Rules → Text → ℕ → List Bool
unfolding field_rules qso_at
rules_at R s at = take 14 (field_rules R (qso_at s at))

-- "A field that cannot be read stops the line there": the first bad field, or where the fields lie.
unfoldable pub parsed_by : Contact → RecordRule → Result Contact ℕ
parsed_by c keeps = Ok c
parsed_by c (breaks field) = Err field

unfoldable pub parsed_at : Rules → Text → ℕ → Result Contact ℕ
unfolding parsed_by contact_at first_broken rules_at
parsed_at R s at = parsed_by (contact_at R s at) (first_broken 1 (rules_at R s at))

-- The two fields whose rules look at the call: the date, and the points of a record that is an ERROR or is not.
unfoldable pub dated_at : Text → ℕ → Option ℕ
unfolding date_rule qso_at end_of
dated_at s at = cond (date_rule (qso_at s at)) (Some (end_of s at)) None

unfoldable pub score_rule : Rules → Bool → Text → Bool
unfolding number_of same
score_rule R error t = number_of R.points_digits t && (not error || same t (bytes "0"))

-- # The record

-- 5: "a record breaks a rule"
unfoldable pub told_by : Contact → RecordRule → Result Contact Fault
told_by c keeps = Ok c
told_by c (breaks field) = Err (fault 5 field)

-- Of a line by itself.
unfoldable pub record_on : Rules → Text → Result Contact Fault
unfolding told_by contact_at record_rule
record_on R l = told_by (contact_at R l 0) (record_rule R l)

-- "field 0 for a wrong number of semicolons, else the first bad field", once this is known to be it.
unfoldable pub broken_at : Text → ℕ → Fault
unfolding parts
broken_at l field = cond (eqb (length (parts l)) 15) (fault 5 field) (fault 5 0)

-- Where no line stands. 2: "the line due has no CR LF ..., but see 6"; 6: "the log ends where a record line is due to begin"
unfoldable pub lineless : Text → ℕ → Fault
lineless s at = cond (ltb at (length s)) (fault 2 0) (fault 6 0)

-- What is told of the line that stands at a place, and what is told where none does.
unfoldable pub due_at : {A : Type 0} → (Text → A) → A → FirstLine → A
due_at of_line of_none (a_line l rest) = of_line l
due_at of_line of_none no_line = of_none

-- Of the place of a log where a record is due.
unfoldable pub record_at : Rules → Text → ℕ → Result Contact Fault
unfolding due_at told_by contact_at record_rule lineless first_line
record_at R s at = due_at (λ l. told_by (contact_at R s at) (record_rule R l)) (Err (lineless s at)) (first_line R (drop at s))

-- Why none stands there, once a field is known to be the first bad one of whatever line does.
unfoldable pub broken_from : Rules → Text → ℕ → ℕ → Fault
unfolding due_at broken_at lineless first_line
broken_from R s at field = due_at (λ l. broken_at l field) (lineless s at) (first_line R (drop at s))

-- # A record in a line by itself

-- The line is a record, whose parts lie at these places: this is told where one is kept.
pub record Alone (R : Rules) (l : Text) (c : Contact) : Type 0 where
  pub rules : conjunction (field_rules R (qso_of (parts l))) ≡ true
  pub describes : Describes l c (qso_of (parts l))
  pub call : c.call ≤ c.callend
  pub call_inside : c.callend + 1 < length l
  pub mode_begins : get_or l (c.callend + 1) 0 ≡ get_or (qso_of (parts l)).mode 0 semicolon
  pub exchange : c.exchange ≤ c.exchangeend
  pub exchange_inside : c.exchangeend ≤ length l
  pub locator : c.locator ≤ c.locatorend
  pub locator_inside : c.locatorend ≤ length l
  pub last_claims : eqb (get_or l (length l - 1) 0) 68 ≡ claims_duplicate (qso_of (parts l))
