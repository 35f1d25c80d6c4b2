-- What W7 asks of the link, sentence by sentence, as statements over the definitions. They are proved elsewhere; here one reads what is claimed.
-- Assumes nothing.
use Rattle.std.specs.Prelude.{ℕ, ◌≤◌, ◌<◌, ◌≡◌, ◌↔◌, true, false, List, [], ◌∷◌, ◌++◌, length, take, Result, Ok, Err}
use Rattle.rules.specs.declared.Fault.{Fault}
use Rattle.rules.specs.declared.Refusal.{Refusal}
use Rattle.rules.specs.declared.Due.{Due}
use Rattle.rules.specs.declared.Due.TheVariants.{Identifier}
use Rattle.rules.specs.Text.{Text}
use Rattle.rules.specs.Rules.{Rules}
use Rattle.rules.specs.Judging.{zero_totals}
use Rattle.rules.specs.Reading.{refusal, step, Reading, refused, lines, walk}
use Rattle.rules.specs.Answers.{Judgement, judge, refusal_of_judgement, totals_of_judgement, numbers_of_judgement}
use Rattle.rules.specs.Given.{LineAndField}
use Rattle.rules.specs.Link.{Link, opened, is_open, Lent, is_short, announced_by, feed, fed_all, Closed, close, link_verdicts}

-- # Wherever they were cut

unfoldable pub joined_all : List Text → Text
joined_all [] = []
joined_all (p ∷ ps) = p ++ joined_all ps

-- "wherever they were cut": two pieces, one behind the other, are one piece; and any pieces of a link that was opened are all their bytes. A piece
-- may have no byte.
pub record CutAnywhere (R : Rules) (lent : Lent) : Type 0 where
  pub two : (k : Link) (s t : Text) → feed R lent (feed R lent k s) t ≡ feed R lent k (s ++ t)
  pub any : (ps : List Text) → fed_all R lent opened ps ≡ feed R lent opened (joined_all ps)

-- # What is settled

-- A text read "line by line", whatever its length.
abbrev pub by_line : Rules → Text → Reading
by_line R s = walk R Identifier 1 (lines R s).whole (lines R s).rest

-- The bytes "settle a refusal": they are refused so, whatever comes behind them.
abbrev pub Settled : Rules → Text → Refusal → Type 0
Settled R s r = (t : Text) → by_line R (s ++ t) ≡ refused r

-- # The count line

-- N, if these lines reach the count line, the first of which is due as said; else what it was.
unfoldable pub announced_on : (Due → ℕ) → ℕ → Result Due Fault → ℕ
announced_on more n (Ok next) = more next
announced_on more n (Err e) = n

unfoldable pub announced_with : Rules → Due → ℕ → List Text → ℕ
unfolding announced_on announced_by step
announced_with R due n [] = n
announced_with R due n (l ∷ ls) =
    announced_on (λ next. announced_with R next (announced_by due next n) ls) n (step R due l)

-- N, if the count line of the text is read; else 0.
abbrev pub announced_in : Rules → Text → ℕ
announced_in R s = announced_with R Identifier 0 (lines R s).whole

abbrev pub Suffice : Lent → ℕ → Type 0
Suffice lent n = is_short lent n ≡ false

-- # As for the joined bytes

-- The link after these bytes, and what its closing answers.
abbrev pub fed : Rules → Lent → Text → Link
fed R lent s = feed R lent opened s

abbrev pub closing : Rules → Lent → Text → Closed
closing R lent s = close R lent (fed R lent s)

-- "classes, totals and refusal are those for the joined bytes": on acceptance the verdicts that are written are all of them.
pub record SaysAs (R : Rules) (c : Closed) (j : Judgement) : Type 0 where
  pub refusal : c.refusal ≡ refusal_of_judgement j
  pub totals : c.totals ≡ totals_of_judgement j
  pub classes : c.refusal.number ≡ 0 → link_verdicts R c.link ≡ numbers_of_judgement j

-- "After the closing call, classes, totals and refusal are those for the joined bytes, wherever they were cut. Two exceptions: number 1 comes at the
-- 65,536th byte, unless the bytes before it already settle a refusal; and a short slice is refused when the count line is read, before any record."
pub record AsJoined (R : Rules) (lent : Lent) (s : Text) : Type 0 where
  pub judges :
      length s ≤ R.longest_log →
      Suffice lent (announced_in R s) →
      SaysAs R (closing R lent s) (judge R lent.verdicts s)
  pub too_long :
      R.longest_log < length s →
      let front = take R.longest_log s in
      Suffice lent (announced_in R front) →
      ((r : Refusal) → Settled R front r → (closing R lent s).refusal ≡ r)
      × (((r : Refusal) → Settled R front r → ⊥) → (closing R lent s).refusal ≡ refusal 1 0 0)
  pub too_short :
      let front = take R.longest_log s in
      is_short lent (announced_in R front) ≡ true →
      (closing R lent s).refusal ≡ refusal 7 0 0

-- While bytes come: a refusal is told as soon as it is settled, and not before.
abbrev pub ToldWhenSettled : Rules → Type 0
ToldWhenSettled R =
    (lent : Lent) (s : Text) →
    length s ≤ R.longest_log →
    Suffice lent (announced_in R s) →
    (r : Refusal) → ((is_open (fed R lent s) ≡ false) × ((fed R lent s).refusal ≡ r)) ↔ Settled R s r

-- # After a refusal

-- "After a refusal all further calls repeat it and change nothing.": whatever is lent, and whatever bytes come.
pub record RefusedStays (R : Rules) (k : Link) : Type 0 where
  pub feeding : (lent : Lent) (s : Text) → feed R lent k s ≡ k
  pub closing : (lent : Lent) → close R lent k ≡ record { link = k; refusal = k.refusal; totals = zero_totals }

-- "13 a call after a closing that accepted"
pub record ThirteenAfter (R : Rules) (c : Closed) : Type 0 where
  pub feeding : (lent : Lent) (s : Text) → (feed R lent c.link s).refusal ≡ refusal 13 0 0
  pub closing : (lent : Lent) → (close R lent c.link).refusal ≡ refusal 13 0 0

-- "7 .. before any byte is taken, when a later call, the closing too, lends too little for N"
pub record SevenBefore (R : Rules) (lent : Lent) (k : Link) : Type 0 where
  pub feeding : (s : Text) → (feed R lent k s).refusal ≡ refusal 7 0 0
  pub closing : (close R lent k).refusal ≡ refusal 7 0 0

-- # Demand 1

-- "refused with a number, a line and a field": an opening keeps no refusal, and from there on each call keeps and tells one with line and field as
-- document 01 has them, or none.
pub record PlacedRightly (R : Rules) : Type 0 where
  pub opening : LineAndField opened.refusal
  pub feeding : (lent : Lent) (k : Link) (s : Text) → LineAndField k.refusal → LineAndField (feed R lent k s).refusal
  pub closing : (lent : Lent) (k : Link) → LineAndField k.refusal → LineAndField (close R lent k).refusal
  pub closed : (lent : Lent) (k : Link) → LineAndField k.refusal → LineAndField (close R lent k).link.refusal

-- "the totals are then zero", and "the state keeps the refusal": where a closing refuses, whatever the state was.
pub record RefusedAtLast (c : Closed) : Type 0 where
  pub totals : c.totals ≡ zero_totals
  pub kept : c.link.refusal ≡ c.refusal

-- # All of it

pub record TheLink (R : Rules) : Type 0 where
  pub cut_anywhere : (lent : Lent) → CutAnywhere R lent
  pub as_joined : (lent : Lent) (s : Text) → AsJoined R lent s
  pub told_when_settled : ToldWhenSettled R
  pub refused_stays : (k : Link) → is_open k ≡ false → RefusedStays R k
  pub thirteen_after :
      (lent : Lent) (k : Link) → (close R lent k).refusal.number ≡ 0 → ThirteenAfter R (close R lent k)
  pub seven_before :
      (lent : Lent) (k : Link) → is_open k ≡ true → is_short lent k.announced ≡ true → SevenBefore R lent k
  pub placed_rightly : PlacedRightly R
  pub refused_at_last :
      (lent : Lent) (k : Link) → ((close R lent k).refusal.number ≡ 0 → ⊥) → RefusedAtLast (close R lent k)
