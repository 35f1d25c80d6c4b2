-- What is kept of a record in lent bytes, and the look-back over them.
-- Assumes nothing.
use Rattle.std.specs.Prelude.{ℕ, zero, suc, ◌+◌, ◌-◌, ◌*◌, ◌/◌, ◌%◌, ◌≤◌, ◌<◌, Bool, true, false, cond, not, ◌&&◌, List, [], ◌∷◌, ◌++◌, ◌≡◌, eqb, leb, ltb, length, take, drop, get_or, set, replicate, Result, Ok, Err}
use Rattle.rules.specs.declared.Class.{Class}
use Rattle.rules.specs.declared.Class.TheVariants.{Credited}
use Rattle.rules.specs.declared.Fault.{Fault}
use Rattle.rules.specs.declared.Verdict.{Verdict}
use Rattle.rules.specs.Text.{Text, semicolon, all, same, empty, parts, value}
use Rattle.rules.specs.Rules.{Rules}
use Rattle.rules.specs.Fields.{Qso, call, is_error, qso_of}
use Rattle.rules.specs.Log.{conjunction}
use Rattle.rules.specs.Judging.{is, claims_points, may_repeat, square, exchange_of, claims_country, verdict_of, credited_after, verdict_number}
use Rattle.rules.specs.Reading.{fault, RecordRule, keeps, breaks, record_rule}
use Rattle.reader.specs.declared.Contact.{Contact}
use Rattle.reader.specs.Record.{Alone}
use Rattle.judge.specs.Bounds.{most_worth}
use Rattle.judge.specs.Said.{class_by, verdict_by}
use Rattle.writer.specs.Written.{written}
use Rattle.session.specs.declared.KeptLine.{KeptLine}

-- # The bytes

-- A text in so many bytes: zero bytes stand behind it.
unfoldable pub filled : ℕ → Text → Text
filled n t = t ++ replicate (n - length t) 0

-- The worked call in 14 bytes, the square in 4 and the exchange in 6.
unfoldable pub worked_part : Rules → Qso → Text
unfolding filled square
worked_part R q = filled 14 (R.home q.call) ++ filled 4 (square q) ++ filled 6 (exchange_of R q)

-- What giving back needs besides: the points in 3 bytes, the last digit of 256 first, and the mode in one.
unfoldable pub points_part : ℕ → Text
points_part n = n % 256 ∷ n / 256 % 256 ∷ n / 65536 % 256 ∷ []

unfoldable pub points_in : Text → ℕ
points_in t = get_or t 0 0 + get_or t 1 0 * 256 + get_or t 2 0 * 65536

unfoldable pub entry_of : Rules → Qso → Text
unfolding worked_part points_part value filled
entry_of R q = worked_part R q ++ points_part (value q.points) ++ filled 1 q.mode

-- Of a record that is not credited nothing is kept: its bytes are zero.
unfoldable pub kept_of : Rules → Class → Qso → Text
unfolding is entry_of
kept_of R class q = cond (is Credited class) (entry_of R q) (replicate 28 0)

-- # The look-back

-- The first number from one on, of so many, that passes a test; the one behind them where none does.
unfoldable pub first_from : (ℕ → Bool) → ℕ → ℕ → ℕ
first_from f zero i = i
first_from f (suc n) i =
    let later = first_from f n (i + 1) in
    cond (f i) i later

-- At a place of the record of this number, where each has so many bytes, stands this text.
abbrev pub stands_at : List ℕ → ℕ → ℕ → Text → ℕ → Bool
stands_at kept stride at t i = same (take (length t) (drop (i * stride + at) kept)) t

-- So it does in one of the first n records.
unfoldable pub held_in : List ℕ → ℕ → ℕ → ℕ → Text → Bool
unfolding first_from same
held_in kept stride n at t = ltb (first_from (stands_at kept stride at t) n 0) n

-- The four bytes at a place, as one number: most texts differ in it.
unfoldable pub four_at : List ℕ → ℕ → ℕ
four_at l at = get_or l at 0 + get_or l (at + 1) 0 * 256 + get_or l (at + 2) 0 * 65536 + get_or l (at + 3) 0 * 16777216

-- # The judging step

-- What is said of a record by what is kept of those before it, as document 01 says it of the credited ones.
unfoldable pub class_kept : Rules → List ℕ → ℕ → ℕ → Qso → Class
unfolding class_by is_error may_repeat claims_points held_in filled
class_kept R kept stride n q =
    class_by (is_error q) (may_repeat q && held_in kept stride n 0 (filled 14 (R.home q.call))) (claims_points q)

-- A text that is not empty and is not kept in so many bytes at a place.
unfoldable pub new_in : List ℕ → ℕ → ℕ → ℕ → ℕ → Text → Bool
unfolding held_in filled
new_in kept stride n at width t = not (empty t) && not (held_in kept stride n at (filled width t))

unfoldable pub verdict_kept : Rules → List ℕ → ℕ → ℕ → Qso → Verdict
unfolding verdict_by class_kept new_in square claims_country
verdict_kept R kept stride n q =
    verdict_by (class_kept R kept stride n q) (new_in kept stride n 18 6 (exchange_of R q)) (new_in kept stride n 14 4 (square q)) (claims_country q)

-- # Many records

-- What is kept of these records, of which these verdicts are told, so many bytes of each, one behind the other.
unfoldable pub bytes_of : Rules → ℕ → List Qso → List Verdict → Text
unfolding kept_of
bytes_of R width [] vs = []
bytes_of R width (q ∷ qs) [] = []
bytes_of R width (q ∷ qs) (v ∷ vs) = take width (kept_of R v.class q) ++ bytes_of R width qs vs

-- The records that are credited after these, the last one first.
unfoldable pub credited_from : Rules → List Qso → List Qso → List Qso
unfolding verdict_of credited_after
credited_from R credited [] = credited
credited_from R credited (q ∷ qs) = credited_from R (credited_after (verdict_of R credited q).class q credited) qs

-- What the rules have to keep to for all of it to fit its bytes: the home part of a call is there and in 14 bytes, none of them zero, an exchange in
-- 6, and the points in 3.
pub record FitsBytes (R : Rules) : Type 0 where
  pub home_short : (c : Text) → call c ≡ true → length (R.home c) ≤ 14
  pub home_plain : (c : Text) → call c ≡ true → all (λ b. not (eqb b 0)) (R.home c) ≡ true
  pub home_there : (c : Text) → call c ≡ true → empty (R.home c) ≡ false
  pub exchange_short : R.longest_exchange ≤ 6
  pub worth_small : most_worth R < 16_777_216

-- # A line, after those that are kept

-- The record on a line.
unfoldable pub record_of : Text → Qso
unfolding qso_of parts
record_of l = qso_of (parts l)

abbrev pub keeps_rules : RecordRule → Bool
keeps_rules keeps = true
keeps_rules (breaks field) = false

-- There is a place for a record behind the first n, in both slices: one verdict, and so many bytes, which are the worked part or all that is kept.
abbrev pub place_tests : ℕ → ℕ → ℕ → ℕ → List Bool
place_tests n width verdicts kept = leb 24 width ∷ leb width 28 ∷ ltb n verdicts ∷ ltb n (kept / width) ∷ []

unfoldable pub has_place_for : ℕ → ℕ → ℕ → ℕ → Bool
unfolding conjunction
has_place_for n width verdicts kept = conjunction (place_tests n width verdicts kept)

unfoldable pub is_kept : Rules → Text → ℕ → ℕ → List ℕ → List ℕ → Bool
unfolding record_rule has_place_for
is_kept R l n width verdicts kept =
    keeps_rules (record_rule R l) && has_place_for n width (length verdicts) (length kept)

-- What is said of the record on the line.
unfoldable pub said_of : Rules → Text → ℕ → ℕ → List ℕ → Verdict
unfolding verdict_kept record_of
said_of R l n width kept = verdict_kept R kept width n (record_of l)

-- What is told of it: its worth, its mode and the number of its verdict.
unfoldable pub told_line : Rules → Text → ℕ → ℕ → List ℕ → KeptLine
unfolding value record_of said_of verdict_number
told_line R l n width kept =
    record {
      worth = value (record_of l).points;
      mode = get_or (record_of l).mode 0 0;
      number = verdict_number (said_of R l n width kept);
    }

-- Or why it is refused: "5 bad record; then 11 session full".
unfoldable pub not_taken : RecordRule → Fault
not_taken (breaks field) = fault 5 field
not_taken keeps = fault 11 0

unfoldable pub line_kept : Rules → Text → ℕ → ℕ → List ℕ → List ℕ → Result KeptLine Fault
unfolding is_kept told_line not_taken record_rule
line_kept R l n width verdicts kept =
    cond (is_kept R l n width verdicts kept) (Ok (told_line R l n width kept)) (Err (not_taken (record_rule R l)))

-- One verdict and one record's bytes are written, and no other byte is changed.
unfoldable pub verdicts_kept : Rules → Text → ℕ → ℕ → List ℕ → List ℕ → List ℕ
unfolding is_kept said_of verdict_number
verdicts_kept R l n width verdicts kept =
    cond (is_kept R l n width verdicts kept) (set verdicts n (verdict_number (said_of R l n width kept))) verdicts

unfoldable pub with_bytes : Rules → Text → ℕ → ℕ → List ℕ → List ℕ
unfolding said_of written kept_of record_of
with_bytes R l n width kept =
    written kept (n * width) (take width (kept_of R (said_of R l n width kept).class (record_of l)))

unfoldable pub bytes_kept : Rules → Text → ℕ → ℕ → List ℕ → List ℕ → List ℕ
unfolding is_kept with_bytes
bytes_kept R l n width verdicts kept = cond (is_kept R l n width verdicts kept) (with_bytes R l n width kept) kept

-- # What the step asks

-- The byte of a mode, by the character at which its field begins.
abbrev pub mode_byte : ℕ → ℕ
mode_byte c = cond (eqb c semicolon) 0 c

-- The record stands on the line, its bytes are these, and those of the n records before it are there.
pub record Stepping (R : Rules) (l : Text) (c : Contact) (entry kept : List ℕ) (width n : ℕ) : Type 0 where
  pub alone : Alone R l c
  pub bytes : entry ≡ entry_of R (record_of l)
  pub long : length entry ≡ 28
  pub wide : 24 ≤ width
  pub inside : n * width ≤ length kept
