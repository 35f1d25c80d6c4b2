-- "The fifteen fields": what each field of a record may be, and the parts that the arguments share with them.
-- Assumes nothing.
use Rattle.std.specs.Prelude.{ℕ, ◌+◌, ◌-◌, ◌%◌, Bool, cond, not, ◌&&◌, ◌||◌, List, [], ◌∷◌, leb, eqb, length, take, drop, get_or}
use Rattle.rules.specs.Text.{Text, bytes, digit, capital, small, allowed, semicolon, all, same, empty, value, number_of}
use Rattle.rules.specs.Rules.{Rules}

-- The days of each month, and one more in the second of a leap year.
unfoldable pub month_lengths : List ℕ
month_lengths = 31 ∷ 28 ∷ 31 ∷ 30 ∷ 31 ∷ 30 ∷ 31 ∷ 31 ∷ 30 ∷ 31 ∷ 30 ∷ 31 ∷ []

unfoldable pub leap : ℕ → Bool
leap year = eqb (year % 4) 0 && not (eqb (year % 100) 0) || eqb (year % 400) 0

unfoldable pub month_length : ℕ → ℕ → ℕ
unfolding month_lengths leap
month_length year month =
    get_or month_lengths (month - 1) 0 + cond (eqb month 2 && leap year) 1 0

-- The day is in the calendar.
unfoldable pub day_exists : ℕ → ℕ → ℕ → Bool
unfolding month_length
day_exists year month day = leb 1 month && leb month 12 && leb 1 day && leb day (month_length year month)

-- "valid YYMMDD, years 90-99 as 1990s, 00-89 as 2000s"
unfoldable pub full_year : ℕ → ℕ
full_year yy = cond (leb 90 yy) (1900 + yy) (2000 + yy)

unfoldable pub short_date : Text → Bool
unfolding all value full_year day_exists
short_date t =
    eqb (length t) 6
    && all digit t
    && day_exists (full_year (value (take 2 t))) (value (take 2 (drop 2 t))) (value (drop 4 t))

-- "valid dates YYYYMMDD, years 1990 to 2089"
unfoldable pub long_date : Text → Bool
unfolding all value day_exists
long_date t =
    eqb (length t) 8
    && all digit t
    && leb 1990 (value (take 4 t))
    && leb (value (take 4 t)) 2089
    && day_exists (value (take 4 t)) (value (take 2 (drop 4 t))) (value (drop 6 t))

-- "A time of day runs from 0000 to 2359": two digits of hours and two of minutes.
unfoldable pub time_of_day : Text → Bool
unfolding all value
time_of_day t = eqb (length t) 4 && all digit t && leb (value (take 2 t)) 23 && leb (value (drop 2 t)) 59

-- "a call: 3 to 14 of A-Z, 0-9, `/`"
abbrev pub call_character : ℕ → Bool
call_character c = capital c || digit c || eqb c 47

unfoldable pub call : Text → Bool
unfolding all
call t = leb 3 (length t) && leb (length t) 14 && all call_character t

-- The call that marks a mistake.
unfoldable pub error_call : Text
error_call = bytes "ERROR"

-- "Mode: empty or one digit"
unfoldable pub mode : Text → Bool
unfolding all
mode t = empty t || eqb (length t) 1 && all digit t

-- "Reports: empty, or two digits, or two digits and one digit or capital letter"
unfoldable pub report : Text → Bool
unfolding all
report t =
    empty t
    || eqb (length t) 2 && all digit t
    || eqb (length t) 3 && all digit (take 2 t) && all (λ c. digit c || capital c) (drop 2 t)

-- "QSO numbers: empty, or 3 or 4 digits, leading zeros allowed"
unfoldable pub serial : Text → Bool
unfolding all
serial t = empty t || leb 3 (length t) && leb (length t) 4 && all digit t

-- "0 to 6 characters, neither `;` nor a-z"; "No field holds a byte outside 32 to 127."
abbrev pub exchange_character : ℕ → Bool
exchange_character c = allowed c && not (eqb c semicolon) && not (small c)

unfoldable pub exchange : Rules → Text → Bool
unfolding all
exchange R t = leb (length t) R.longest_exchange && all exchange_character t

-- "a locator: two letters A-R, two digits, and either nothing more or two letters A-X"
abbrev pub square_letter : ℕ → Bool
square_letter c = leb 65 c && leb c 82

abbrev pub sub_letter : ℕ → Bool
sub_letter c = leb 65 c && leb c 88

unfoldable pub locator : Text → Bool
unfolding all
locator t =
    (eqb (length t) 4 || eqb (length t) 6)
    && all square_letter (take 2 t)
    && all digit (take 2 (drop 2 t))
    && all sub_letter (drop 4 t)

-- "empty or as PWWLo", "empty or a call"
unfoldable pub empty_or : (Text → Bool) → Text → Bool
empty_or rule t = empty t || rule t

-- "Marks: empty or `N`, the last empty or `D`"
unfoldable pub new_mark : Text
new_mark = bytes "N"

unfoldable pub duplicate_mark : Text
duplicate_mark = bytes "D"

-- A record's fifteen fields, in the order of 001.
pub record Qso : Type 0 where
  pub date : Text
  pub time : Text
  pub call : Text
  pub mode : Text
  pub sent_report : Text
  pub sent_number : Text
  pub received_report : Text
  pub received_number : Text
  pub exchange : Text
  pub locator : Text
  pub points : Text
  pub new_exchange : Text
  pub new_square : Text
  pub new_country : Text
  pub duplicate : Text

-- "If the call is `ERROR`"
unfoldable pub is_error : Qso → Bool
unfolding same error_call
is_error q = same q.call error_call

-- "If the call is `ERROR` the date may be empty and points must be `0`."
unfoldable pub date_rule : Qso → Bool
unfolding short_date is_error
date_rule q = short_date q.date || empty q.date && is_error q

unfoldable pub points_rule : Rules → Qso → Bool
unfolding number_of is_error same
points_rule R q = number_of R.points_digits q.points && (not (is_error q) || same q.points (bytes "0"))

-- The rules of the mode, of the two QSO numbers and of the received exchange, each by the record that it stands in.
abbrev pub mode_rule : Rules → Qso → Bool
mode_rule R q = mode q.mode

abbrev pub sent_number_rule : Rules → Qso → Bool
sent_number_rule R q = serial q.sent_number

abbrev pub received_number_rule : Rules → Qso → Bool
received_number_rule R q = serial q.received_number

-- "Exchange as PExch."
abbrev pub received_exchange_rule : Rules → Qso → Bool
received_exchange_rule R q = exchange R q.exchange

-- Whether each of the fifteen fields keeps its rule, from the first to the last.
unfoldable pub field_rules : Rules → Qso → List Bool
unfolding date_rule time_of_day call mode report serial exchange empty_or locator points_rule same new_mark duplicate_mark
field_rules R q =
    date_rule q
    ∷ time_of_day q.time
    ∷ call q.call
    ∷ mode_rule R q
    ∷ report q.sent_report
    ∷ sent_number_rule R q
    ∷ report q.received_report
    ∷ received_number_rule R q
    ∷ received_exchange_rule R q
    ∷ empty_or locator q.locator
    ∷ points_rule R q
    ∷ empty_or (same new_mark) q.new_exchange
    ∷ empty_or (same new_mark) q.new_square
    ∷ empty_or (same new_mark) q.new_country
    ∷ empty_or (same duplicate_mark) q.duplicate
    ∷ []

-- The fields as a list, and the list as fields.
unfoldable pub fields_of : Qso → List Text
fields_of q =
    q.date
    ∷ q.time
    ∷ q.call
    ∷ q.mode
    ∷ q.sent_report
    ∷ q.sent_number
    ∷ q.received_report
    ∷ q.received_number
    ∷ q.exchange
    ∷ q.locator
    ∷ q.points
    ∷ q.new_exchange
    ∷ q.new_square
    ∷ q.new_country
    ∷ q.duplicate
    ∷ []

unfoldable pub qso_of : List Text → Qso
qso_of ts =
    record {
      date = get_or ts 0 [];
      time = get_or ts 1 [];
      call = get_or ts 2 [];
      mode = get_or ts 3 [];
      sent_report = get_or ts 4 [];
      sent_number = get_or ts 5 [];
      received_report = get_or ts 6 [];
      received_number = get_or ts 7 [];
      exchange = get_or ts 8 [];
      locator = get_or ts 9 [];
      points = get_or ts 10 [];
      new_exchange = get_or ts 11 [];
      new_square = get_or ts 12 [];
      new_country = get_or ts 13 [];
      duplicate = get_or ts 14 [];
    }
