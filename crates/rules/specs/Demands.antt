-- The three demands of document 00, sentence by sentence, as statements over the definitions. They are proved elsewhere; here one reads what
-- is claimed. `A ↔ B` is "A exactly when B", `A ⊎ B` "A or B", `A → ⊥` "not A", `T b` "the test b holds".
-- Assumes nothing.
use Rattle.std.specs.Prelude.{ℕ, zero, suc, ◌+◌, ◌*◌, ◌-◌, ◌^◌, ◌≤◌, ◌<◌, ◌≡◌, ◌⊎◌, ◌↔◌, Bool, false, cond, not, ◌&&◌, List, [], ◌∷◌, map, T, length, get_or, take, drop}
use Prim.Native.String.{String}
use Rattle.rules.specs.declared.Refusal.{Refusal}
use Rattle.rules.specs.declared.Class.{Class}
use Rattle.rules.specs.declared.Class.TheVariants.{Credited, Void, Duplicate, Error}
use Rattle.rules.specs.declared.Verdict.{Verdict}
use Rattle.rules.specs.declared.Totals.{Totals}
use Rattle.rules.specs.Text.{Text, bytes, same, empty, parts, value, digits}
use Rattle.rules.specs.Rules.{Rules, base}
use Rattle.rules.specs.Fields.{Qso, is_error, fields_of}
use Rattle.rules.specs.Arguments.{entries, among}
use Rattle.rules.specs.Log.{Log, argument, keywords_of, keyword_rules, valid, render, IsWrittenAs, FollowsTheFormat}
use Rattle.rules.specs.Judging.{Declared, is, claims_points, claims_duplicate, same_call, square, exchange_of, claims_country, verdicts, mode_numbers, modes_together, multipliers, declared, verdicts_of_log, totals_of_log, zero_totals}
use Rattle.rules.specs.Writing.{written_back, unclaimed}
use Rattle.rules.specs.Reading.{accepted, refused, refusal, lines, read}
use Rattle.rules.specs.Answers.{records_of_reading, respelt_of_reading, unseen, view, start_of_view, viewed, listed_of_view, unjudged, judge, totals_of_judgement, numbers_of_judgement, written, unwritten, write, bytes_of_writing, over}
use Rattle.rules.specs.Given.{GivenExactlyWhen, ZeroWhenAccepted, LineAndFieldToldRightly}
use Rattle.rules.specs.Striking.{Places, strike, place_after, struck_worth}
use Rattle.rules.specs.MendingDemands.{TheMender}

-- # Demand 1

-- "Every input gets an answer." What is answered is a function of the text, of the keyword's number and of the slice, with no condition on
-- them: "No caller has to check first." Of a text, the answer is the log that it is, or a refusal.
abbrev pub EveryInputGetsAnAnswer : Rules → Type 0
EveryInputGetsAnAnswer R =
    (s : Text) → ((log : Log) × (read R s ≡ accepted log)) ⊎ ((r : Refusal) × (read R s ≡ refused r))

-- "A file that breaks the rules is refused with a number, a line and a field": 1 with no line and no field, where it is too long; otherwise 2
-- to 6 with a line of the text, or the one that is missing behind them, and with a field, one of fifteen or none, in 5 alone.
pub record OfALine (lines : ℕ) (r : Refusal) : Type 0 where
  pub number : (2 ≤ r.number) × (r.number ≤ 6)
  pub line : (1 ≤ r.line) × (r.line ≤ lines + 1)
  pub field : r.field ≤ 15
  pub in_five_alone : (r.number ≡ 5 → ⊥) → r.field ≡ 0

abbrev pub RefusedWithNumberLineField : Rules → Type 0
RefusedWithNumberLineField R =
    (s : Text) (r : Refusal) →
    read R s ≡ refused r →
    (r ≡ refusal 1 0 0) ⊎ OfALine (length (lines R s).whole) r

-- "the totals are then zero and lent memory is as it was handed over", of each call that can be refused.
abbrev pub RefusedJudgingChangesNothing : Rules → Type 0
RefusedJudgingChangesNothing R =
    (s : Text) (slice : List ℕ) (r : Refusal) →
    judge R (length slice) s ≡ unjudged r →
    (totals_of_judgement (judge R (length slice) s) ≡ zero_totals)
    × (over (numbers_of_judgement (judge R (length slice) s)) slice ≡ slice)

abbrev pub RefusedWritingChangesNothing : Rules → Type 0
RefusedWritingChangesNothing R =
    (s : Text) (slice : List ℕ) (r : Refusal) →
    write R (length slice) s ≡ unwritten r →
    (length (bytes_of_writing (write R (length slice) s)) ≡ 0)
    × (over (bytes_of_writing (write R (length slice) s)) slice ≡ slice)

abbrev pub RefusedViewIsEmpty : Rules → Type 0
RefusedViewIsEmpty R =
    (s : Text) (k : ℕ) (r : Refusal) →
    view R k s ≡ unseen r →
    (start_of_view (view R k s) ≡ 0) × (viewed (view R k s) ≡ []) × (listed_of_view (view R k s) ≡ false)

abbrev pub RefusedReadingHasNoRecords : Rules → Type 0
RefusedReadingHasNoRecords R =
    (s : Text) (r : Refusal) →
    read R s ≡ refused r →
    (records_of_reading (read R s) ≡ 0) × (respelt_of_reading (read R s) ≡ 0)

-- One statement of it: whatever is refused changes nothing and shows nothing.
pub record ARefusalChangesNothing (R : Rules) : Type 0 where
  pub reading : RefusedReadingHasNoRecords R
  pub judging : RefusedJudgingChangesNothing R
  pub writing : RefusedWritingChangesNothing R
  pub viewing : RefusedViewIsEmpty R

-- # Demand 2

-- "A file is accepted exactly when it follows the format as document 01 fixes it", and it is read as the log that it is written from.
abbrev pub AcceptedExactlyWhenWritten : Rules → Type 0
AcceptedExactlyWhenWritten R = (s : Text) (log : Log) → (read R s ≡ accepted log) ↔ IsWrittenAs R s log

abbrev pub AcceptedExactlyWhenFormat : Rules → Type 0
AcceptedExactlyWhenFormat R = (s : Text) → ((log : Log) × (read R s ≡ accepted log)) ↔ FollowsTheFormat R s

-- W1: "Read a keyword in either letter case": an accepted log whose keywords are spelt otherwise, but for nothing more than the case of their
-- letters, is accepted too, judged alike and written back alike.
abbrev pub spelt : List Text → Log → Log
spelt keywords log =
    record {
      keywords = keywords;
      arguments = log.arguments;
      remarks = log.remarks;
      records = log.records;
    }

pub record TakenAlike (R : Rules) (log other : Log) : Type 0 where
  pub reads : read R (render other) ≡ accepted other
  pub same_verdicts : verdicts_of_log R other ≡ verdicts_of_log R log
  pub same_totals : totals_of_log R other ≡ totals_of_log R log
  pub written_alike : written_back R other ≡ written_back R log

abbrev pub EitherCaseIsTakenAlike : Rules → Type 0
EitherCaseIsTakenAlike R =
    (s : Text) (log : Log) (keywords : List Text) →
    read R s ≡ accepted log →
    T (keyword_rules entries keywords) →
    TakenAlike R log (spelt keywords log)

-- The record and the verdict at a place of a list, the first of which is 0.
abbrev pub qso_at : List Qso → ℕ → Qso
qso_at qs j =
    get_or qs j
    (record {
      date = [];
      time = [];
      call = [];
      mode = [];
      sent_report = [];
      sent_number = [];
      received_report = [];
      received_number = [];
      exchange = [];
      locator = [];
      points = [];
      new_exchange = [];
      new_square = [];
      new_country = [];
      duplicate = [];
    })

abbrev pub verdict_at : Rules → List Qso → ℕ → Verdict
verdict_at R qs j =
    get_or (verdicts R qs) j (record { class = Error; exchange = false; square = false; country = false })

abbrev pub class_at : Rules → List Qso → ℕ → Class
class_at R qs j = (verdict_at R qs j).class

-- Some, or no, earlier credited record passes a test beside the one at a place.
abbrev pub SomeEarlierCredited : Rules → List Qso → (Qso → Qso → Bool) → ℕ → Type 0
SomeEarlierCredited R qs f j =
    (i : ℕ) × (i < j) × (class_at R qs i ≡ Credited) × T (f (qso_at qs i) (qso_at qs j))

abbrev pub same_call_as : Rules → Qso → Qso → Bool
same_call_as R e q = same_call R e.call q.call

-- "the same call, byte for byte"
abbrev pub CallsAreComparedByteForByte : Type 0
CallsAreComparedByteForByte = (call other : Text) → T (same_call base call other) ↔ (call ≡ other)

abbrev pub same_square_as : Qso → Qso → Bool
same_square_as e q = same (square e) (square q)

abbrev pub same_exchange_as : Rules → Qso → Qso → Bool
same_exchange_as R e q = same (exchange_of R e) (exchange_of R q)

-- "Each record's class, each mark and the total are those the document defines": the classes and marks of the record at a place, in terms of
-- the classes before it. W3: "A record with 0 points and no D is void even if its call was credited before; a duplicate needs points or a claimed
-- D."
pub record AsTheDocumentDefines (R : Rules) (qs : List Qso) (j : ℕ) : Type 0 where
  pub error : (class_at R qs j ≡ Error) ↔ T (is_error (qso_at qs j))
  pub duplicate :
      (class_at R qs j ≡ Duplicate)
      ↔ (T (not (is_error (qso_at qs j)))
      × (T (claims_points (qso_at qs j)) ⊎ T (claims_duplicate (qso_at qs j)))
      × SomeEarlierCredited R qs (same_call_as R) j)
  pub void :
      (class_at R qs j ≡ Void)
      ↔ (T (not (is_error (qso_at qs j)))
      × T (not (claims_points (qso_at qs j)))
      × (T (not (claims_duplicate (qso_at qs j))) ⊎ (SomeEarlierCredited R qs (same_call_as R) j → ⊥)))
  pub credited :
      (class_at R qs j ≡ Credited)
      ↔ (T (not (is_error (qso_at qs j))) × (SomeEarlierCredited R qs (same_call_as R) j → ⊥) × T (claims_points (qso_at qs j)))
  pub new_square :
      T (verdict_at R qs j).square
      ↔ ((class_at R qs j ≡ Credited)
      × T (not (empty (square (qso_at qs j))))
      × (SomeEarlierCredited R qs same_square_as j → ⊥))
  pub new_exchange :
      T (verdict_at R qs j).exchange
      ↔ ((class_at R qs j ≡ Credited)
      × T (not (empty (exchange_of R (qso_at qs j))))
      × (SomeEarlierCredited R qs (same_exchange_as R) j → ⊥))
  pub new_country : T (verdict_at R qs j).country ↔ ((class_at R qs j ≡ Credited) × T (claims_country (qso_at qs j)))

abbrev pub ClassesAndMarksAsDefined : Rules → Type 0
ClassesAndMarksAsDefined R = (qs : List Qso) (j : ℕ) → j < length qs → AsTheDocumentDefines R qs j

-- "and the total": the sum of a number over the first so many places, and how many of them pass a test.
unfoldable pub sum_over : ℕ → (ℕ → ℕ) → ℕ
sum_over zero f = 0
sum_over (suc n) f = f 0 + sum_over n (λ j. f (suc j))

abbrev pub how_many : ℕ → (ℕ → Bool) → ℕ
how_many n test = sum_over n (λ j. cond (test j) 1 0)

-- W1: "the keyword matcher now also says whether the spelling was the listed one, and all who call it carry that on": the k-th keyword of a log is
-- spelt as the k-th of the list.
abbrev pub spelled_as_listed : Log → ℕ → Bool
spelled_as_listed log k = same (get_or (keywords_of entries) (k - 1) []) (get_or log.keywords (k - 1) [])

-- Of an accepted log, how many of the 36 are not; none exactly where all stand in the listed spelling. A view says it of its own.
pub record SpellingsAreTold (R : Rules) (s : Text) (log : Log) : Type 0 where
  pub counted : respelt_of_reading (read R s) ≡ how_many 36 (λ j. not (spelled_as_listed log (suc j)))
  pub none : (respelt_of_reading (read R s) ≡ 0) ↔ (log.keywords ≡ keywords_of entries)
  pub few : respelt_of_reading (read R s) ≤ 36
  pub viewing : (k : ℕ) → 1 ≤ k → k ≤ 36 → listed_of_view (view R k s) ≡ spelled_as_listed log k

abbrev pub SpellingsAreCounted : Rules → Type 0
SpellingsAreCounted R = (s : Text) (log : Log) → read R s ≡ accepted log → SpellingsAreTold R s log

-- The modes: "codes 0 to 9 and then blank".
unfoldable pub the_modes : List Text
the_modes =
    bytes "0"
    ∷ bytes "1"
    ∷ bytes "2"
    ∷ bytes "3"
    ∷ bytes "4"
    ∷ bytes "5"
    ∷ bytes "6"
    ∷ bytes "7"
    ∷ bytes "8"
    ∷ bytes "9"
    ∷ bytes ""
    ∷ []

-- W4: "a count of credited records for each mode code and for a blank mode".
abbrev pub credited_by : Rules → List Qso → Text → ℕ
credited_by R qs mode =
    how_many (length qs) (λ j. is Credited (class_at R qs j) && same (qso_at qs j).mode mode)

-- "So four counts, each defined over the list of records"; "Countries are counted by the claimed New-DXCC marks on credited records. P is the
-- sum of credited points. A bonus is the number of new ones times the declared bonus. Total = (P + three bonuses) x the three declared
-- multipliers of CWWLs, CExcs and CDXCs".
pub record TotalsAre (R : Rules) (d : Declared) (qs : List Qso) (t : Totals) : Type 0 where
  pub credited : t.credited ≡ how_many (length qs) (λ j. is Credited (class_at R qs j))
  pub voids : t.voids ≡ how_many (length qs) (λ j. is Void (class_at R qs j))
  pub duplicates : t.duplicates ≡ how_many (length qs) (λ j. is Duplicate (class_at R qs j))
  pub errors : t.errors ≡ how_many (length qs) (λ j. is Error (class_at R qs j))
  pub points :
      t.points ≡ sum_over (length qs) (λ j. cond (is Credited (class_at R qs j)) (value (qso_at qs j).points) 0)
  pub squares : t.squares ≡ how_many (length qs) (λ j. (verdict_at R qs j).square)
  pub exchanges : t.exchanges ≡ how_many (length qs) (λ j. (verdict_at R qs j).exchange)
  pub countries : t.countries ≡ how_many (length qs) (λ j. (verdict_at R qs j).country)
  pub squarebonus : t.squarebonus ≡ t.squares * d.square_bonus
  pub exchangebonus : t.exchangebonus ≡ t.exchanges * d.exchange_bonus
  pub countrybonus : t.countrybonus ≡ t.countries * d.country_bonus
  pub total :
      t.total
      ≡ (t.points + t.squarebonus + t.exchangebonus + t.countrybonus)
      * (d.square_multiplier * d.exchange_multiplier * d.country_multiplier)
  pub modes : mode_numbers t.modes ≡ map (credited_by R qs) the_modes

-- "CWWLs, CExcs, CDXCs: count, bonus, multiplier"
abbrev pub Declares : Log → String → ℕ → ℕ → Type 0
Declares log keyword bonus multiplier =
    (count second third : Text) →
    parts (argument log (bytes keyword)) ≡ count ∷ second ∷ third ∷ [] →
    (bonus ≡ value second) × (multiplier ≡ value third)

pub record DeclaredIs (log : Log) (d : Declared) : Type 0 where
  pub squares : Declares log "CWWLs" d.square_bonus d.square_multiplier
  pub exchanges : Declares log "CExcs" d.exchange_bonus d.exchange_multiplier
  pub countries : Declares log "CDXCs" d.country_bonus d.country_multiplier

abbrev pub TotalsAsDefined : Rules → Type 0
TotalsAsDefined R =
    (log : Log) → TotalsAre R (declared log) log.records (totals_of_log R log) × DeclaredIs log (declared log)

-- "So four counts .. add up to N", and "It is at most ..", of every log that is accepted.
abbrev pub FourCountsAddUp : Rules → Type 0
FourCountsAddUp R =
    (log : Log) →
    (totals_of_log R log).credited
    + (totals_of_log R log).voids
    + (totals_of_log R log).duplicates
    + (totals_of_log R log).errors
    ≡ length log.records

-- W4: "They add up to the credited count wherever totals are made or kept": in the totals of every log that keeps the rules, and in every answer
-- of judging, whatever is handed over and however long the slice is; a refusal has zeros.
abbrev pub AddUp : Totals → Type 0
AddUp t = modes_together t.modes ≡ t.credited

pub record ModesAddUp (R : Rules) : Type 0 where
  pub of_logs : (log : Log) → T (valid R log) → AddUp (totals_of_log R log)
  pub of_answers : (s : Text) (room : ℕ) → AddUp (totals_of_judgement (judge R room s))

-- The most that so many records can come to, each with the most points and all three bonuses at their most, times three multipliers.
unfoldable pub most_total : Rules → ℕ
most_total R =
    (R.most_records * (10 ^ R.points_digits - 1)
    + R.most_records * R.most_bonus
    + R.most_records * R.most_bonus
    + R.most_records * R.most_bonus)
    * (R.most_multiplier * R.most_multiplier * R.most_multiplier)

abbrev pub TotalIsBounded : Rules → Type 0
TotalIsBounded R = (s : Text) (log : Log) → read R s ≡ accepted log → (totals_of_log R log).total ≤ most_total R

-- "Writing back changes only the claims, points and marks named there", and by W1 the spellings: without them the two logs are one.
abbrev pub WritingChangesOnlyTheNamed : Rules → Type 0
WritingChangesOnlyTheNamed R = (log : Log) → unclaimed (written_back R log) ≡ unclaimed log

-- And the named become what they are named to become. A text is the one where something holds, and else the other.
abbrev pub IsWhere : Type 0 → Text → Text → Text → Type 0
IsWhere P text one other = (P → text ≡ one) × ((P → ⊥) → text ≡ other)

-- "In each record New-Exchange and New-WWL become the judged marks, New-DXCC is kept on credited records and emptied elsewhere, the last field
-- is `D` exactly on duplicates, and a duplicate's points become 0"; the ten fields in front of them are copied.
pub record RecordIsSet (v : Verdict) (before after : Qso) : Type 0 where
  pub copied : take 10 (fields_of after) ≡ take 10 (fields_of before)
  pub points : IsWhere (v.class ≡ Duplicate) after.points (bytes "0") before.points
  pub new_exchange : IsWhere (T v.exchange) after.new_exchange (bytes "N") []
  pub new_square : IsWhere (T v.square) after.new_square (bytes "N") []
  pub new_country : IsWhere (v.class ≡ Credited) after.new_country before.new_country []
  pub duplicate : IsWhere (v.class ≡ Duplicate) after.duplicate (bytes "D") []

-- A count becomes this number, and what stands behind it, bonus and multiplier, is kept; a whole claim becomes this number.
abbrev pub CountBecomes : Log → Log → String → ℕ → Type 0
CountBecomes before after keyword n =
    parts (argument after (bytes keyword)) ≡ digits n ∷ drop 1 (parts (argument before (bytes keyword)))

abbrev pub ClaimBecomes : Log → String → ℕ → Type 0
ClaimBecomes after keyword n = argument after (bytes keyword) ≡ digits n

-- "the counts in CQSOs, CWWLs, CExcs, CDXCs, and CQSOP, CWWLB, CExcB, CDXCB and CToSc, become the recomputed ones."
pub record ClaimsAreSet (t : Totals) (before after : Log) : Type 0 where
  pub contacts : CountBecomes before after "CQSOs" t.credited
  pub points : ClaimBecomes after "CQSOP" t.points
  pub squares : CountBecomes before after "CWWLs" t.squares
  pub squarebonus : ClaimBecomes after "CWWLB" t.squarebonus
  pub exchanges : CountBecomes before after "CExcs" t.exchanges
  pub exchangebonus : ClaimBecomes after "CExcB" t.exchangebonus
  pub countries : CountBecomes before after "CDXCs" t.countries
  pub countrybonus : ClaimBecomes after "CDXCB" t.countrybonus
  pub total : ClaimBecomes after "CToSc" t.total

unfoldable pub the_nine : List Text
the_nine =
    bytes "CQSOs"
    ∷ bytes "CQSOP"
    ∷ bytes "CWWLs"
    ∷ bytes "CWWLB"
    ∷ bytes "CExcs"
    ∷ bytes "CExcB"
    ∷ bytes "CDXCs"
    ∷ bytes "CDXCB"
    ∷ bytes "CToSc"
    ∷ []

-- "Every byte is copied but these"; W1: "Writing back uses the listed spelling".
pub record NamedAreSet (R : Rules) (before after : Log) : Type 0 where
  pub keywords : after.keywords ≡ keywords_of entries
  pub claims : ClaimsAreSet (totals_of_log R before) before after
  pub other_arguments :
      (keyword : Text) → T (not (among the_nine keyword)) → argument after keyword ≡ argument before keyword
  pub remarks : after.remarks ≡ before.remarks
  pub as_many : length after.records ≡ length before.records
  pub each_record :
      (j : ℕ) →
      j < length before.records →
      RecordIsSet (verdict_at R before.records j) (qso_at before.records j) (qso_at after.records j)

abbrev pub WritingSetsTheNamed : Rules → Type 0
WritingSetsTheNamed R = (log : Log) → T (valid R log) → NamedAreSet R log (written_back R log)

-- "and a log so written reads to the same classes and total and is written back unchanged."
pub record WrittenReadsTheSame (R : Rules) (log : Log) (t : Text) : Type 0 where
  pub reads : read R t ≡ accepted (written_back R log)
  pub same_verdicts : verdicts_of_log R (written_back R log) ≡ verdicts_of_log R log
  pub same_totals : totals_of_log R (written_back R log) ≡ totals_of_log R log
  pub unchanged : (room : ℕ) → length t ≤ room → write R room t ≡ written t

abbrev pub WritingBackIsStable : Rules → Type 0
WritingBackIsStable R =
    (s : Text) (log : Log) (room : ℕ) (t : Text) →
    read R s ≡ accepted log →
    write R room s ≡ written t →
    WrittenReadsTheSame R log t

-- # Demand 3, whatever the home part of a call is

-- "Strike any set of records from an accepted log and correct the count line": what is written so is accepted.
abbrev pub StruckIsAccepted : Rules → Type 0
StruckIsAccepted R =
    (s : Text) (log : Log) (struck : Places) →
    read R s ≡ accepted log →
    read R (render (strike struck log)) ≡ accepted (strike struck log)

-- The class that a record which is not struck has once the others are.
abbrev pub class_struck : Rules → Log → Places → ℕ → Class
class_struck R log struck j = class_at R (strike struck log).records (place_after struck j)

-- "every earlier record of its call that claims points was struck"
abbrev pub EveryEarlierClaimIsStruck : Rules → Log → Places → ℕ → Type 0
EveryEarlierClaimIsStruck R log struck j =
    (i : ℕ) →
    i < j →
    T (same_call_as R (qso_at log.records i) (qso_at log.records j)) →
    T (claims_points (qso_at log.records i)) →
    T (struck i)

-- "A credited record that was not struck is still credited, and a duplicate not struck becomes credited exactly when it claims points and
-- every earlier record of its call that claims points was struck."
pub record StrikesRightly (R : Rules) (log : Log) (struck : Places) : Type 0 where
  pub still_credited :
      (j : ℕ) →
      j < length log.records →
      T (not (struck j)) →
      class_at R log.records j ≡ Credited →
      class_struck R log struck j ≡ Credited
  pub promoted :
      (j : ℕ) →
      j < length log.records →
      T (not (struck j)) →
      class_at R log.records j ≡ Duplicate →
      (class_struck R log struck j ≡ Credited)
      ↔ (T (claims_points (qso_at log.records j)) × EveryEarlierClaimIsStruck R log struck j)

-- "If, besides, every duplicate in the log before striking claims no points"
abbrev pub DuplicatesClaimNothing : Rules → Log → Type 0
DuplicatesClaimNothing R log =
    (j : ℕ) →
    j < length log.records →
    class_at R log.records j ≡ Duplicate →
    T (not (claims_points (qso_at log.records j)))

-- "then nothing becomes credited, the total does not rise, and it falls by no more than the struck credited records' points plus one bonus of
-- each of the three kinds for each, times the declared multipliers."
pub record StrikesCheaply (R : Rules) (log : Log) (struck : Places) : Type 0 where
  pub nothing_promoted :
      (j : ℕ) →
      j < length log.records →
      T (not (struck j)) →
      class_struck R log struck j ≡ Credited →
      class_at R log.records j ≡ Credited
  pub does_not_rise : (totals_of_log R (strike struck log)).total ≤ (totals_of_log R log).total
  pub fall_is_bounded :
      (totals_of_log R log).total
      ≤ (totals_of_log R (strike struck log)).total
      + struck_worth (declared log) struck log.records (verdicts_of_log R log) * multipliers (declared log)

abbrev pub StrikingRule : Rules → Type 0
StrikingRule R =
    (log : Log) (struck : Places) →
    T (valid R log) →
    StrikesRightly R log struck × (DuplicatesClaimNothing R log → StrikesCheaply R log struck)

-- The premise is needed: some accepted log has a total that rises by a strike.
abbrev pub PremiseIsNeeded : Type 0
PremiseIsNeeded =
    (s : Text)
    × (log : Log)
    × (struck : Places)
    × (read base s ≡ accepted log)
    × ((totals_of_log base log).total < (totals_of_log base (strike struck log)).total)

-- # All of it

pub record TheThreeDemands (R : Rules) : Type 0 where
  pub every_input_gets_an_answer : EveryInputGetsAnAnswer R
  pub refused_with_number_line_field : RefusedWithNumberLineField R
  pub given_exactly_when : GivenExactlyWhen R
  pub zero_when_accepted : ZeroWhenAccepted R
  pub line_and_field_told_rightly : LineAndFieldToldRightly R
  pub a_refusal_changes_nothing : ARefusalChangesNothing R
  pub accepted_exactly_when_written : AcceptedExactlyWhenWritten R
  pub accepted_exactly_when_format : AcceptedExactlyWhenFormat R
  pub either_case_is_taken_alike : EitherCaseIsTakenAlike R
  pub spellings_are_counted : SpellingsAreCounted R
  pub classes_and_marks_as_defined : ClassesAndMarksAsDefined R
  pub totals_as_defined : TotalsAsDefined R
  pub four_counts_add_up : FourCountsAddUp R
  pub modes_add_up : ModesAddUp R
  pub total_is_bounded : TotalIsBounded R
  pub writing_changes_only_the_named : WritingChangesOnlyTheNamed R
  pub writing_sets_the_named : WritingSetsTheNamed R
  pub writing_back_is_stable : WritingBackIsStable R
  pub struck_is_accepted : StruckIsAccepted R
  pub striking_rule : StrikingRule R

-- Of the base rules besides: "the same call, byte for byte", "It is at most 998,404,684,715,196", that the premise is needed, and what W2 asks of
-- the mender.
pub record TheBaseKeepsThem : Type 0 where
  pub the_three_demands : TheThreeDemands base
  pub calls_are_compared_byte_for_byte : CallsAreComparedByteForByte
  pub the_most_total : most_total base ≡ 998_404_684_715_196
  pub premise_is_needed : PremiseIsNeeded
  pub the_mender : TheMender base
