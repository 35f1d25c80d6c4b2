-- Laws of fields: a field that keeps its rule has room and holds no semicolon, so a record line and its fifteen fields are one thing.
-- Assumes nothing.
use Prim.Native.Nat.{ℕ, zero, suc, ◌+◌, ◌≤◌, ◌<◌}
use mathlib.Core.Path.{◌≡◌, refl, sym, ap, ◌∙◌}
use mathlib.Core.Logic.{⊎_elim}
use mathlib.Core.Bool.{Bool, true, false, cond, not, ◌&&◌, ◌||◌}
use mathlib.Core.List.{List, [], ◌∷◌}
use lib.Dec.{leb, eqb}
use lib.ListN.{length, take, drop, get_or, length-append, drop_of_length-le}
use lib.Seq.{drop-cons, drop-drop}
use native.Mathlib.Omega.{arith}
use borrow.Author.Tests.{leb-true, le-leb, eqb-true, ne_eqb}
use Rattle.rules.specs.Text.{Text, bytes, digit, capital, small, allowed, semicolon, all, same, empty, value, number, number_of, parts, joined}
use Rattle.rules.specs.Rules.{Rules}
use Rattle.rules.specs.Fields.{day_exists, full_year, short_date, time_of_day, call_character, call, mode, report, serial, exchange_character, exchange, square_letter, sub_letter, locator, empty_or, new_mark, duplicate_mark, Qso, is_error, date_rule, points_rule, field_rules, fields_of, qso_of}
use Rattle.rules.specs.Arguments.{every}
use Rattle.rules.specs.Log.{record_line, line_rule, conjunction}
use Rattle.rules.specs.Reading.{keeps, breaks, first_broken, record_rule}
use Rattle.rules.proofs.Tests.{◌beside◌, picked, never, and_l, and_r, and_i, or_cases, not_false}
use Rattle.rules.proofs.NumberLaws.{number_digits}
use Rattle.rules.proofs.TextLaws.{all_append, all_halves, all_weaker, same_eq, plain, parts_joined, joined_parts}

-- What a field may hold: an allowed character that is no semicolon.
abbrev pub field_character : ℕ → Bool
field_character c = allowed c && plain c

-- Characters of a range below the semicolon, or above it.
range_below : (a b c : ℕ) → 32 ≤ a → b < semicolon → (leb a c && leb c b) ≡ true → field_character c ≡ true
range_below a b c h g e =
    let low : a ≤ c = leb-true a c (and_l (leb a c) (leb c b) e) in
    let high : c ≤ b = leb-true c b (and_r (leb a c) (leb c b) e) in
    and_i (and_i (le-leb 32 c (omega arith)) (le-leb c 127 (omega arith))) (not_false (ne_eqb c semicolon (λ z. omega arith)))

range_above : (a b c : ℕ) → semicolon < a → b ≤ 127 → (leb a c && leb c b) ≡ true → field_character c ≡ true
range_above a b c h g e =
    let low : a ≤ c = leb-true a c (and_l (leb a c) (leb c b) e) in
    let high : c ≤ b = leb-true c b (and_r (leb a c) (leb c b) e) in
    and_i (and_i (le-leb 32 c (omega arith)) (le-leb c 127 (omega arith))) (not_false (ne_eqb c semicolon (λ z. omega arith)))

digit_clean : (c : ℕ) → digit c ≡ true → field_character c ≡ true
digit_clean c e = range_below 48 57 c (omega arith) (omega arith) e

capital_clean : (c : ℕ) → capital c ≡ true → field_character c ≡ true
capital_clean c e = range_above 65 90 c (omega arith) (omega arith) e

call_clean : (c : ℕ) → call_character c ≡ true → field_character c ≡ true
call_clean c e =
    ⊎_elim
    (λ (p : (capital c || digit c) ≡ true). ⊎_elim (capital_clean c) (digit_clean c) (or_cases (capital c) (digit c) p))
    (λ (p : eqb c 47 ≡ true). rw (eqb-true c 47 p))
    (or_cases (capital c || digit c) (eqb c 47) e)

report_clean : (c : ℕ) → (digit c || capital c) ≡ true → field_character c ≡ true
report_clean c e = ⊎_elim (digit_clean c) (capital_clean c) (or_cases (digit c) (capital c) e)

exchange_clean : (c : ℕ) → exchange_character c ≡ true → field_character c ≡ true
exchange_clean c e = and_l (allowed c && plain c) (not (small c)) e

-- A text without semicolons, and one that fits a field of so many characters.
abbrev pub Plain : Text → Type 0
Plain t = all plain t ≡ true

pub record Fits (most : ℕ) (t : Text) : Type 0 where
  pub clean : all field_character t ≡ true
  pub short : length t ≤ most

pub fits_plain : {most : ℕ} {t : Text} → Fits most t → Plain t
fits_plain {most} {t} f = all_weaker field_character plain (λ c. and_r (allowed c) (plain c)) t f.clean

pub fits_allowed : {most : ℕ} {t : Text} → Fits most t → all allowed t ≡ true
fits_allowed {most} {t} f = all_weaker field_character allowed (λ c. and_l (allowed c) (plain c)) t f.clean

-- Digits that are not too many fit.
pub digits_fit : (most : ℕ) (t : Text) → all digit t ≡ true → length t ≤ most → Fits most t
digits_fit most t e h = record { clean = all_weaker digit field_character digit_clean t e; short = h }

pub digits_plain : (t : Text) → all digit t ≡ true → Plain t
digits_plain t e = fits_plain (digits_fit (length t) t e (omega arith))

empty_fits : (most : ℕ) (t : Text) → empty t ≡ true → Fits most t
unfolding all
empty_fits most [] e = record { clean = refl; short = omega arith }
empty_fits most (c ∷ t) e = never e

empty_or_fits : (most : ℕ) (rule : Text → Bool) → ((t : Text) → rule t ≡ true → Fits most t) → (t : Text) → empty_or rule t ≡ true → Fits most t
unfolding empty_or
empty_or_fits most rule h t e = ⊎_elim (empty_fits most t) (h t) (or_cases (empty t) (rule t) e)

length_is : (t : Text) (n : ℕ) → eqb (length t) n ≡ true → length t ≤ n
length_is t n e = omega (arith, eqb-true (length t) n e)

-- Each rule of a field, and the characters that it has room for.
date_fits : (q : Qso) → date_rule q ≡ true → Fits 6 q.date
unfolding date_rule short_date
date_fits q e =
    let t = q.date in
    let a = eqb (length t) 6 in
    let d = day_exists (full_year (value (take 2 t))) (value (take 2 (drop 2 t))) (value (drop 4 t)) in
    ⊎_elim
    (λ (p : (a && all digit t && d) ≡ true).
    let f : (a && all digit t) ≡ true = and_l (a && all digit t) d p in
    digits_fit 6 t (and_r a (all digit t) f) (length_is t 6 (and_l a (all digit t) f)))
    (λ (p : (empty t && is_error q) ≡ true). empty_fits 6 t (and_l (empty t) (is_error q) p))
    (or_cases (a && all digit t && d) (empty t && is_error q) e)

time_fits : (t : Text) → time_of_day t ≡ true → Fits 4 t
unfolding time_of_day
time_fits t e =
    let a = eqb (length t) 4 in
    let b = leb (value (take 2 t)) 23 in
    let d = leb (value (drop 2 t)) 59 in
    let f : (a && all digit t) ≡ true = and_l (a && all digit t) b (and_l (a && all digit t && b) d e) in
    digits_fit 4 t (and_r a (all digit t) f) (length_is t 4 (and_l a (all digit t) f))

call_fits : (t : Text) → call t ≡ true → Fits 14 t
unfolding call
call_fits t e =
    let a = leb 3 (length t) in
    let b = leb (length t) 14 in
    record {
      clean = all_weaker call_character field_character call_clean t (and_r (a && b) (all call_character t) e);
      short = leb-true (length t) 14 (and_r a b (and_l (a && b) (all call_character t) e));
    }

mode_fits : (t : Text) → mode t ≡ true → Fits 1 t
unfolding mode
mode_fits t e =
    let a = eqb (length t) 1 in
    ⊎_elim (empty_fits 1 t)
    (λ (p : (a && all digit t) ≡ true). digits_fit 1 t (and_r a (all digit t) p) (length_is t 1 (and_l a (all digit t) p)))
    (or_cases (empty t) (a && all digit t) e)

report_fits : (t : Text) → report t ≡ true → Fits 3 t
unfolding report
report_fits t e =
    let a = eqb (length t) 2 in
    let b = eqb (length t) 3 in
    let first = all digit (take 2 t) in
    let last = all (λ c. digit c || capital c) (drop 2 t) in
    ⊎_elim
    (λ (p : (empty t || a && all digit t) ≡ true).
    ⊎_elim (empty_fits 3 t)
    (λ (g : (a && all digit t) ≡ true). digits_fit 3 t (and_r a (all digit t) g) (omega (arith, length_is t 2 (and_l a (all digit t) g))))
    (or_cases (empty t) (a && all digit t) p))
    (λ (p : (b && first && last) ≡ true).
    let g : (b && first) ≡ true = and_l (b && first) last p in
    record {
      clean =
          all_halves field_character 2 t (all_weaker digit field_character digit_clean (take 2 t) (and_r b first g))
          (all_weaker (λ c. digit c || capital c) field_character report_clean (drop 2 t) (and_r (b && first) last p));
      short = length_is t 3 (and_l b first g);
    })
    (or_cases (empty t || a && all digit t) (b && first && last) e)

serial_fits : (t : Text) → serial t ≡ true → Fits 4 t
unfolding serial
serial_fits t e =
    let a = leb 3 (length t) in
    let b = leb (length t) 4 in
    ⊎_elim (empty_fits 4 t)
    (λ (p : (a && b && all digit t) ≡ true).
    digits_fit 4 t (and_r (a && b) (all digit t) p) (leb-true (length t) 4 (and_r a b (and_l (a && b) (all digit t) p))))
    (or_cases (empty t) (a && b && all digit t) e)

exchange_fits : (R : Rules) (t : Text) → exchange R t ≡ true → Fits R.longest_exchange t
unfolding exchange
exchange_fits R t e =
    let a = leb (length t) R.longest_exchange in
    record {
      clean = all_weaker exchange_character field_character exchange_clean t (and_r a (all exchange_character t) e);
      short = leb-true (length t) R.longest_exchange (and_l a (all exchange_character t) e);
    }

locator_fits : (t : Text) → locator t ≡ true → Fits 6 t
unfolding locator
locator_fits t e =
    let four = eqb (length t) 4 in
    let six = eqb (length t) 6 in
    let a = four || six in
    let b = all square_letter (take 2 t) in
    let c = all digit (take 2 (drop 2 t)) in
    let d = all sub_letter (drop 4 t) in
    let size : a ≡ true = and_l a b (and_l (a && b) c (and_l (a && b && c) d e)) in
    let first : b ≡ true = and_r a b (and_l (a && b) c (and_l (a && b && c) d e)) in
    let second : c ≡ true = and_r (a && b) c (and_l (a && b && c) d e) in
    let third : d ≡ true = and_r (a && b && c) d e in
    let rest : all field_character (drop 2 (drop 2 t)) ≡ true = rw (drop-drop 2 2 t) (all_weaker sub_letter field_character (λ x. range_above 65 88 x (omega arith) (omega arith)) (drop 4 t) third) in
    record {
      clean =
          all_halves field_character 2 t
          (all_weaker square_letter field_character (λ x. range_above 65 82 x (omega arith) (omega arith)) (take 2 t) first)
          (all_halves field_character 2 (drop 2 t) (all_weaker digit field_character digit_clean (take 2 (drop 2 t)) second) rest);
      short =
          ⊎_elim (λ (p : four ≡ true). let h : length t ≤ 4 = length_is t 4 p in let g : length t ≤ 6 = omega arith in g) (λ (p : six ≡ true). length_is t 6 p) (or_cases four six size);
    }

number_of_fits : (most : ℕ) (t : Text) → number_of most t ≡ true → Fits most t
unfolding number_of
number_of_fits most t e =
    digits_fit most t
    (number_digits t (and_l (number t) (leb (length t) most) e))
    (leb-true (length t) most (and_r (number t) (leb (length t) most) e))

points_fit : (R : Rules) (q : Qso) → points_rule R q ≡ true → Fits R.points_digits q.points
unfolding points_rule
points_fit R q e =
    number_of_fits R.points_digits q.points
    (and_l (number_of R.points_digits q.points) (not (is_error q) || same q.points (bytes "0")) e)

new_fits : (t : Text) → same new_mark t ≡ true → Fits 1 t
unfolding new_mark all
new_fits t e = rw (← same_eq new_mark t e) (record { clean = refl; short = omega arith })

duplicate_fits : (t : Text) → same duplicate_mark t ≡ true → Fits 1 t
unfolding duplicate_mark all
duplicate_fits t e = rw (← same_eq duplicate_mark t e) (record { clean = refl; short = omega arith })

-- Each text fits the room at its place.
abbrev pub AllFit : List ℕ → List Text → Type 0
AllFit [] [] = Unit {0}
AllFit [] (t ∷ ts) = ⊥
AllFit (n ∷ ns) [] = ⊥
AllFit (n ∷ ns) (t ∷ ts) = Fits n t × AllFit ns ts

-- Each test keeps the text at its place within its room.
abbrev KeepWithin : List ℕ → List Bool → List Text → Type 0
KeepWithin [] [] [] = Unit {0}
KeepWithin [] [] (t ∷ ts) = ⊥
KeepWithin [] (b ∷ bs) ts = ⊥
KeepWithin (n ∷ ns) [] ts = ⊥
KeepWithin (n ∷ ns) (b ∷ bs) [] = ⊥
KeepWithin (n ∷ ns) (b ∷ bs) (t ∷ ts) = (b ≡ true → Fits n t) × KeepWithin ns bs ts

kept_within : (ns : List ℕ) (bs : List Bool) (ts : List Text) → KeepWithin ns bs ts → conjunction bs ≡ true → AllFit ns ts
unfolding conjunction
kept_within [] [] [] k e = tt
kept_within [] [] (t ∷ ts) k e = k
kept_within [] (b ∷ bs) ts k e = absurd k
kept_within (n ∷ ns) [] ts k e = absurd k
kept_within (n ∷ ns) (b ∷ bs) [] k e = k
kept_within (n ∷ ns) (b ∷ bs) (t ∷ ts) k e = (k.0 (and_l b (conjunction bs) e), kept_within ns bs ts k.1 (and_r b (conjunction bs) e))

pub all_fit_plain : (ns : List ℕ) (ts : List Text) → AllFit ns ts → every (all plain) ts ≡ true
unfolding every
all_fit_plain [] [] k = refl
all_fit_plain [] (t ∷ ts) k = absurd k
all_fit_plain (n ∷ ns) [] k = absurd k
all_fit_plain (n ∷ ns) (t ∷ ts) k = and_i (fits_plain k.0) (all_fit_plain ns ts k.1)

-- The room for texts with a semicolon between each two.
abbrev pub room : List ℕ → ℕ
room [] = 0
room (n ∷ []) = n
room (n ∷ m ∷ ns) = n + 1 + room (m ∷ ns)

pub joined_short : (ns : List ℕ) (ts : List Text) → AllFit ns ts → length (joined ts) ≤ room ns
unfolding joined
joined_short [] [] k = omega arith
joined_short [] (t ∷ ts) k = absurd k
joined_short (n ∷ ns) [] k = absurd k
joined_short (n ∷ []) (t ∷ []) k = k.0.short
joined_short (n ∷ []) (t ∷ u ∷ ts) k = absurd k.1
joined_short (n ∷ m ∷ ns) (t ∷ []) k = absurd k.1
joined_short (n ∷ m ∷ ns) (t ∷ u ∷ ts) k = simp length-append (omega (arith, k.0.short, joined_short (m ∷ ns) (u ∷ ts) k.1))

pub joined_allowed : (ns : List ℕ) (ts : List Text) → AllFit ns ts → all allowed (joined ts) ≡ true
unfolding joined all
joined_allowed [] [] k = refl
joined_allowed [] (t ∷ ts) k = absurd k
joined_allowed (n ∷ ns) [] k = absurd k
joined_allowed (n ∷ ns) (t ∷ []) k = fits_allowed k.0
joined_allowed (n ∷ []) (t ∷ u ∷ ts) k = absurd k.1
joined_allowed (n ∷ m ∷ ns) (t ∷ u ∷ ts) k =
    all_append allowed t (semicolon ∷ joined (u ∷ ts)) (fits_allowed k.0) (joined_allowed (m ∷ ns) (u ∷ ts) k.1)

-- The room of the fifteen fields.
abbrev pub rooms : Rules → List ℕ
rooms R = 6 ∷ 4 ∷ 14 ∷ 1 ∷ 3 ∷ 4 ∷ 3 ∷ 4 ∷ R.longest_exchange ∷ 6 ∷ R.points_digits ∷ 1 ∷ 1 ∷ 1 ∷ 1 ∷ []

module _ (R : Rules) where
  fields_within : (q : Qso) → KeepWithin (rooms R) (field_rules R q) (fields_of q)
  unfolding field_rules fields_of
  fields_within q =
      date_fits q
      beside time_fits q.time
      beside call_fits q.call
      beside mode_fits q.mode
      beside report_fits q.sent_report
      beside serial_fits q.sent_number
      beside report_fits q.received_report
      beside serial_fits q.received_number
      beside exchange_fits R q.exchange
      beside empty_or_fits 6 locator locator_fits q.locator
      beside points_fit R q
      beside empty_or_fits 1 (same new_mark) new_fits q.new_exchange
      beside empty_or_fits 1 (same new_mark) new_fits q.new_square
      beside empty_or_fits 1 (same new_mark) new_fits q.new_country
      beside empty_or_fits 1 (same duplicate_mark) duplicate_fits q.duplicate
      beside tt

  -- Each field of a record that keeps its rules fits, and so no field holds a semicolon.
  pub fields_fit : (q : Qso) → conjunction (field_rules R q) ≡ true → AllFit (rooms R) (fields_of q)
  fields_fit q e = kept_within (rooms R) (field_rules R q) (fields_of q) (fields_within q) e

  pub fields_plain : (q : Qso) → conjunction (field_rules R q) ≡ true → every (all plain) (fields_of q) ≡ true
  fields_plain q e = all_fit_plain (rooms R) (fields_of q) (fields_fit q e)

  -- A record that keeps its rules is a line, if the rules leave it room.
  pub record_line_rule : (q : Qso) → room (rooms R) ≤ R.longest_line → conjunction (field_rules R q) ≡ true → line_rule R (record_line q) ≡ true
  unfolding line_rule record_line
  record_line_rule q h e =
      let k = fields_fit q e in
      and_i (le-leb (length (record_line q)) R.longest_line (omega (arith, joined_short (rooms R) (fields_of q) k))) (joined_allowed (rooms R) (fields_of q) k)

-- The texts from a place on, so many of them.
from : ℕ → ℕ → List Text → List Text
from zero i ts = []
from (suc n) i ts = get_or ts i [] ∷ from n (suc i) ts

from_is : (n i : ℕ) (ts : List Text) → i + n ≡ length ts → from n i ts ≡ drop i ts
unfolding from
from_is zero i ts e = let h : length ts ≤ i = omega arith in sym (drop_of_length-le ts h)
from_is (suc n) i ts e =
    ap {B = List Text} (λ r. get_or ts i [] ∷ r) (from_is n (suc i) ts (omega arith)) ∙ sym (drop-cons ts i [] (omega arith))

-- Fifteen texts and the fields of a record are one thing.
pub fields_of_texts : (ts : List Text) → length ts ≡ 15 → fields_of (qso_of ts) ≡ ts
unfolding fields_of qso_of from
fields_of_texts ts e = from_is 15 0 ts (sym e)

pub record_of_fields : (q : Qso) → qso_of (fields_of q) ≡ q
unfolding fields_of qso_of
record_of_fields q = refl

-- A broken rule is none that is kept.
no_break : {A : Type 0} {n : ℕ} → breaks n ≡ keeps → A
no_break e = let z : ◌≡◌ {A = ℕ} 0 1 = cc in absurd (omega arith)

-- No test is broken exactly when all hold.
pub none_broken : (n : ℕ) (bs : List Bool) → conjunction bs ≡ true → first_broken n bs ≡ keeps
unfolding first_broken conjunction
none_broken n [] e = refl
none_broken n (b ∷ bs) e = rw (and_l b (conjunction bs) e) (none_broken (suc n) bs (and_r b (conjunction bs) e))

pub all_hold : (n : ℕ) (bs : List Bool) → first_broken n bs ≡ keeps → conjunction bs ≡ true
unfolding first_broken conjunction
all_hold n [] e = refl
all_hold n (true ∷ bs) e = all_hold (suc n) bs e
all_hold n (false ∷ bs) e = no_break e

module _ (R : Rules) where
  -- The line of a record that keeps its rules is read as that record.
  pub parts_of_record : (q : Qso) → conjunction (field_rules R q) ≡ true → parts (record_line q) ≡ fields_of q
  unfolding record_line fields_of
  parts_of_record q e = parts_joined q.date (drop 1 (fields_of q)) (fields_plain R q e)

  pub record_kept : (q : Qso) → conjunction (field_rules R q) ≡ true → record_rule R (record_line q) ≡ keeps
  unfolding record_rule fields_of
  record_kept q e =
      ap (λ ts. cond (eqb (length ts) 15) (first_broken 1 (field_rules R (qso_of ts))) (breaks 0)) (parts_of_record q e)
      ∙ none_broken 1 (field_rules R q) e

  -- A line that keeps the rules of a record is the line of the record that it is read as.
  pub record IsRecord (l : Text) : Type 0 where
    pub rules : conjunction (field_rules R (qso_of (parts l))) ≡ true
    pub line : record_line (qso_of (parts l)) ≡ l

  pub record_is : (l : Text) → record_rule R l ≡ keeps → IsRecord l
  unfolding record_rule record_line
  record_is l e =
      let p = picked (eqb (length (parts l)) 15) e no_break in
      let n : length (parts l) ≡ 15 = eqb-true (length (parts l)) 15 p.0 in
      record {
        rules = all_hold 1 (field_rules R (qso_of (parts l))) p.1;
        line = ap joined (fields_of_texts (parts l) n) ∙ joined_parts l;
      }
