-- Laws of the lines of a log: what stands in front of the count line, the count line, and the record lines.
-- Assumes nothing.
use Prim.Native.Nat.{ℕ, suc, ◌+◌, ◌≤◌}
use mathlib.Core.Path.{◌≡◌, refl, ap}
use mathlib.Core.Bool.{Bool, true, false, ◌&&◌}
use mathlib.Core.List.{List, [], ◌∷◌, ◌++◌, map, append_assoc}
use lib.Dec.{leb}
use lib.ListN.{length, length-append}
use native.Mathlib.Omega.{arith}
use borrow.Author.Tests.{leb-true, le-leb}
use Rattle.rules.specs.Text.{Text, bytes, allowed, digit, all, digits}
use Rattle.rules.specs.Rules.{Rules}
use Rattle.rules.specs.Arguments.{Entry, meets, every}
use Rattle.rules.specs.Log.{Log, identifier, remarks_line, count_start, count_line, keyword_lines, record_line, lines_of, crlf, ended, line_rule, argument_rules}
use Rattle.rules.proofs.Tests.{never, and_l, and_r, and_i}
use Rattle.rules.proofs.TextLaws.{all_append}
use Rattle.rules.proofs.NumberLaws.{digits_all, digits_shorter}
use Rattle.rules.proofs.FieldLaws.{digits_fit, fits_allowed}

-- Of every text of two lists.
module _ (f : Text → Bool) where
  pub every_append : (a b : List Text) → every f a ≡ true → every f b ≡ true → every f (a ++ b) ≡ true
  unfolding every
  every_append [] b e g = g
  every_append (t ∷ a) b e g = and_i (and_l (f t) (every f a) e) (every_append a b (and_r (f t) (every f a) e) g)

  pub every_front : (a b : List Text) → every f (a ++ b) ≡ true → every f a ≡ true
  unfolding every
  every_front [] b e = refl
  every_front (t ∷ a) b e = and_i (and_l (f t) (every f (a ++ b)) e) (every_front a b (and_r (f t) (every f (a ++ b)) e))

  pub every_back : (a b : List Text) → every f (a ++ b) ≡ true → every f b ≡ true
  unfolding every
  every_back [] b e = e
  every_back (t ∷ a) b e = every_back a b (and_r (f t) (every f (a ++ b)) e)

  pub every_split : (a b : List Text) → every f (a ++ b) ≡ (every f a && every f b)
  unfolding every
  every_split [] b = refl
  every_split (t ∷ a) b = by (f t) (every_split a b)
    where
      by : (c : Bool) → every f (a ++ b) ≡ (every f a && every f b) → (c && every f (a ++ b)) ≡ (c && every f a && every f b)
      by true e = e
      by false e = refl

  pub every_more : (t : Text) (ts : List Text) → f t ≡ true → every f ts ≡ true → every f (t ∷ ts) ≡ true
  unfolding every
  every_more t ts e g = and_i e g

  pub every_first : (t : Text) (ts : List Text) → every f (t ∷ ts) ≡ true → f t ≡ true
  unfolding every
  every_first t ts e = and_l (f t) (every f ts) e

  pub every_others : (t : Text) (ts : List Text) → every f (t ∷ ts) ≡ true → every f ts ≡ true
  unfolding every
  every_others t ts e = and_r (f t) (every f ts) e

-- How long lines with their ends are.
pub length_ended_more : (l : Text) (ls : List Text) → length (ended (l ∷ ls)) ≡ length l + 2 + length (ended ls)
unfolding ended crlf
length_ended_more l ls = simp length-append

pub length_ended_append : (a b : List Text) → length (ended (a ++ b)) ≡ length (ended a) + length (ended b)
length_ended_append [] b = unfold ended in omega arith
length_ended_append (l ∷ a) b = omega (arith, length_ended_more l a, length_ended_more l (a ++ b), length_ended_append a b)

-- There is an argument for each keyword.
pub argument_count : (R : Rules) (es : List Entry) (ts : List Text) → argument_rules R es ts ≡ true → length ts ≡ length es
unfolding argument_rules
argument_count R [] [] e = refl
argument_count R [] (t ∷ ts) e = never e
argument_count R (f ∷ es) [] e = never e
argument_count R (f ∷ es) (t ∷ ts) e = ap suc (argument_count R es ts (and_r (meets R f.rule t) (argument_rules R es ts) e))

-- What stands in front of the count line.
unfoldable pub front : Log → List Text
front log = identifier ∷ keyword_lines log.keywords log.arguments ++ remarks_line ∷ log.remarks

-- What stands behind the keyword lines, and the lines of a log by these.
abbrev pub behind_keywords : Log → List Text
behind_keywords log =
    remarks_line ∷ log.remarks ++ count_line (length log.records) ∷ map record_line log.records

pub lines_opened : (log : Log) → lines_of log ≡ identifier ∷ (keyword_lines log.keywords log.arguments ++ behind_keywords log)
unfolding lines_of
lines_opened log =
    ap {B = List Text} (λ r. identifier ∷ r)
    (append_assoc (keyword_lines log.keywords log.arguments) (remarks_line ∷ log.remarks) (count_line (length log.records) ∷ map record_line log.records))

pub lines_split : (log : Log) → lines_of log ≡ front log ++ count_line (length log.records) ∷ map record_line log.records
unfolding lines_of front
lines_split log = refl

-- The count line of fewer records is a line too.
pub digits_allowed : (t : Text) → all digit t ≡ true → all allowed t ≡ true
digits_allowed t e = fits_allowed (digits_fit (length t) t e (omega arith))

count_allowed : (n : ℕ) → all allowed (count_line n) ≡ true
unfolding count_line
count_allowed n =
    all_append allowed (count_start ++ digits n) (bytes "]")
    (all_append allowed count_start (digits n) (unfold count_start all in refl) (digits_allowed (digits n) (digits_all n)))
    (unfold all in refl)

pub length_count : (n : ℕ) → length (count_line n) ≡ 13 + length (digits n)
unfolding count_line count_start
length_count n = simp length-append (omega arith)

module _ (R : Rules) where
  pub fewer_counted : (m n : ℕ) → m ≤ n → line_rule R (count_line n) ≡ true → line_rule R (count_line m) ≡ true
  unfolding line_rule
  fewer_counted m n h e =
      let fits : length (count_line n) ≤ R.longest_line = leb-true (length (count_line n)) R.longest_line (and_l (leb (length (count_line n)) R.longest_line) (all allowed (count_line n)) e) in
      and_i (le-leb (length (count_line m)) R.longest_line (omega (arith, length_count m, length_count n, digits_shorter n m h))) (count_allowed m)
