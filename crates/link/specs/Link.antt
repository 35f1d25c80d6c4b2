-- The link of W7 as a caller keeps it: its numbers, its unfinished line, and what the two lent slices hold. Every state and every slice gets an answer.
-- Assumes nothing.
use Rattle.std.specs.Prelude.{ℕ, ◌+◌, ◌-◌, min, Bool, true, false, cond, not, ◌&&◌, List, [], ◌∷◌, ◌++◌, eqb, leb, ltb, length, take, drop, replicate, Result, Ok, Err}
use Rattle.rules.specs.declared.Fault.{Fault}
use Rattle.rules.specs.declared.Refusal.{Refusal}
use Rattle.rules.specs.declared.Due.{Due}
use Rattle.rules.specs.declared.Due.TheVariants.{Identifier, Keyword, Remarks, Remark, Record, End}
use Rattle.rules.specs.Text.{Text, allowed}
use Rattle.rules.specs.Rules.{Rules}
use Rattle.rules.specs.Arguments.{bonus, multiplier, part}
use Rattle.rules.specs.Log.{conjunction}
use Rattle.rules.specs.Judging.{zero_totals}
use Rattle.rules.specs.Reading.{refusal, records_due, step, Reading, accepted, refused, at_rest}
use Rattle.rules.specs.Answers.{no_refusal}
use Rattle.rules.specs.Link.{Lent, worked_bytes, is_short}
use Rattle.reader.specs.Contact.{value_by}
use Rattle.places.specs.declared.Declared.{Declared}
use Rattle.judge.specs.Narrow.{low, no_counts, sums_in, counted_more}
use Rattle.judge.specs.Sums.{totals_kept}
use Rattle.writer.specs.Written.{written}
use Rattle.session.specs.declared.KeptLine.{KeptLine}
use Rattle.session.specs.Entry.{line_kept, verdicts_kept, bytes_kept}
use Rattle.link.specs.declared.Closing.{Closing}
use Rattle.link.specs.declared.Rated.{Rated}
use Rattle.link.specs.declared.Link.{Link}

-- What a call has: the link and the two slices.
pub record Holding : Type 0 where
  pub link : Link
  pub verdicts : List ℕ
  pub worked : List ℕ

abbrev pub holding : Link → List ℕ → List ℕ → Holding
holding s verdicts worked = record { link = s; verdicts = verdicts; worked = worked }

-- # The numbers

unfoldable pub no_rates : Rated
no_rates =
    record {
      squarebonus = 0;
      squaremultiplier = 0;
      exchangebonus = 0;
      exchangemultiplier = 0;
      countrybonus = 0;
      countrymultiplier = 0;
    }

-- Nothing of a line came.
abbrev pub no_line : List ℕ
no_line = replicate 75 0

-- "the state keeps the refusal", and nothing else.
unfoldable pub stopped_by : Refusal → Link
unfolding no_counts no_rates
stopped_by r =
    record {
      refusal = r;
      count = 0;
      lines = 0;
      points = 0;
      counts = no_counts;
      rated = no_rates;
      records = 0;
      done = 0;
      stage = 0;
      held = 0;
      returned = 0;
      line = no_line;
    }

-- "Verdicts and worked entries already written stay then".
unfoldable pub stopped : Holding → Refusal → Holding
unfolding stopped_by
stopped h r = holding (stopped_by r) h.verdicts h.worked

abbrev pub is_open : Link → Bool
is_open s = eqb s.refusal.number 0

-- The number of the line that is coming.
abbrev pub line_of : Link → ℕ
line_of s = s.lines + 1

-- What is due there.
unfoldable pub due_at : ℕ → ℕ → Due
unfolding records_due
due_at stage left =
    cond (eqb stage 0) Identifier
    (cond (leb stage 36) (Keyword (stage - 1))
    (cond (eqb stage 37) Remarks
    (cond (eqb stage 38) Remark (records_due left))))

abbrev pub due_of : Link → Due
due_of s = due_at s.stage (s.records - s.done)

-- Nothing more is.
abbrev pub is_end : Due → Bool
is_end Identifier = false
is_end (Keyword k) = false
is_end Remarks = false
is_end Remark = false
is_end (Record n) = false
is_end End = true

-- N, as far as the count line is read.
unfoldable pub announced : Link → ℕ
announced s = cond (ltb s.stage 39) 0 s.records

-- The characters of the unfinished line, and whether its CR came.
abbrev pub begun : Link → Text
begun s = take s.held s.line

abbrev pub has_return : Link → Bool
has_return s = not (eqb s.returned 0)

-- What is declared, as the judge has it.
unfoldable pub declared_in : Rated → Declared
declared_in r =
    record {
      squarebonus = r.squarebonus;
      squaremultiplier = r.squaremultiplier;
      exchangebonus = r.exchangebonus;
      exchangemultiplier = r.exchangemultiplier;
      countrybonus = r.countrybonus;
      countrymultiplier = r.countrymultiplier;
    }

-- # A finished line

-- The bonus and the multiplier on a keyword's line: its argument begins behind the six characters of the keyword and `=`.
abbrev pub bonus_on : Rules → Text → ℕ
bonus_on R l = value_by (bonus R) (part 1 (drop 6 l))

abbrev pub multiplier_on : Rules → Text → ℕ
multiplier_on R l = value_by (multiplier R) (part 2 (drop 6 l))

-- What is declared behind the line of the keyword after so many: CWWLs, CExcs and CDXCs are keywords 29, 31 and 33.
unfoldable pub rated_at : Rules → ℕ → Text → Rated → Rated
unfolding bonus multiplier part value_by
rated_at R k l r =
    record {
      squarebonus = cond (eqb k 28) (low (bonus_on R l)) r.squarebonus;
      squaremultiplier = cond (eqb k 28) (low (multiplier_on R l)) r.squaremultiplier;
      exchangebonus = cond (eqb k 30) (low (bonus_on R l)) r.exchangebonus;
      exchangemultiplier = cond (eqb k 30) (low (multiplier_on R l)) r.exchangemultiplier;
      countrybonus = cond (eqb k 32) (low (bonus_on R l)) r.countrybonus;
      countrymultiplier = cond (eqb k 32) (low (multiplier_on R l)) r.countrymultiplier;
    }

unfoldable pub rated_by : Rules → Due → Text → Rated → Rated
unfolding rated_at
rated_by R Identifier l r = r
rated_by R (Keyword k) l r = rated_at R k l r
rated_by R Remarks l r = r
rated_by R Remark l r = r
rated_by R (Record n) l r = r
rated_by R End l r = r

-- A line in front of the records is taken: this is the next stage, N, and how many records are taken.
unfoldable pub went_on : Rules → Link → Text → ℕ → ℕ → ℕ → Link
unfolding rated_by due_at
went_on R s l stage records done =
    record {
      refusal = s.refusal;
      count = s.count;
      lines = s.lines + 1;
      points = s.points;
      counts = s.counts;
      rated = rated_by R (due_of s) l s.rated;
      records = records;
      done = done;
      stage = stage;
      held = 0;
      returned = 0;
      line = no_line;
    }

-- "a short slice is refused when the count line is read, before any record"
unfoldable pub if_long : Lent → Link → Link
unfolding is_short announced stopped_by
if_long lent s = cond (is_short lent (announced s)) (stopped_by (refusal 7 0 0)) s

-- What is due next, by its stage. The count line says N, and no record is taken yet; any other line leaves both.
unfoldable pub head_goes : Rules → Lent → Link → Text → Due → Link
unfolding went_on if_long
head_goes R lent s l Identifier = went_on R s l 0 s.records s.done
head_goes R lent s l (Keyword k) = went_on R s l (low (k + 1)) s.records s.done
head_goes R lent s l Remarks = went_on R s l 37 s.records s.done
head_goes R lent s l Remark = went_on R s l 38 s.records s.done
head_goes R lent s l (Record n) = if_long lent (went_on R s l 39 (low n) 0)
head_goes R lent s l End = if_long lent (went_on R s l 39 0 0)

unfoldable pub head_next : Rules → Lent → Link → Text → Result Due Fault → Link
unfolding head_goes stopped_by
head_next R lent s l (Ok next) = head_goes R lent s l next
head_next R lent s l (Err e) = stopped_by (refusal e.number (line_of s) e.field)

unfoldable pub head_line : Rules → Lent → Link → Text → Link
unfolding head_next step due_at
head_line R lent s l = head_next R lent s l (step R (due_of s) l)

-- A record is taken, which is worth so much, by the byte of its mode and the number of its verdict.
unfoldable pub with_record : Link → ℕ → ℕ → ℕ → Link
unfolding counted_more
with_record s worth mode number =
    let c = counted_more s.points s.counts worth mode number in
    record {
      refusal = s.refusal;
      count = s.count;
      lines = s.lines + 1;
      points = c.points;
      counts = c.counts;
      rated = s.rated;
      records = s.records;
      done = s.done + 1;
      stage = s.stage;
      held = 0;
      returned = 0;
      line = no_line;
    }

-- What is told of its line: "5: a record breaks a rule".
unfoldable pub record_told : Link → Result KeptLine Fault → Link
unfolding with_record stopped_by
record_told s (Ok k) = with_record s k.worth k.mode k.number
record_told s (Err e) = stopped_by (refusal e.number (line_of s) e.field)

-- Its verdict and what is worked are written behind those of the records before it.
unfoldable pub record_line : Rules → Holding → Text → Holding
unfolding record_told line_kept verdicts_kept bytes_kept
record_line R h l =
    let n = h.link.done in
    holding (record_told h.link (line_kept R l n worked_bytes h.verdicts h.worked))
    (verdicts_kept R l n worked_bytes h.verdicts h.worked)
    (bytes_kept R l n worked_bytes h.verdicts h.worked)

abbrev pub lent_of : ℕ → ℕ → Lent
lent_of verdicts worked = record { verdicts = verdicts; worked = worked }

abbrev pub lent_by : Holding → Lent
lent_by h = lent_of (length h.verdicts) (length h.worked)

-- The line is finished: its LF came.
unfoldable pub finishes : Rules → Holding → Text → Holding
unfolding head_line record_line
finishes R h l =
    cond (ltb h.link.stage 39) (holding (head_line R (lent_by h) h.link l) h.verdicts h.worked) (record_line R h l)

-- # One byte

-- The state with another unfinished line: so many characters of this, and a CR or none.
abbrev pub held_as : ℕ → ℕ → List ℕ → Link → Link
held_as held returned line s =
    record {
      refusal = s.refusal;
      count = s.count;
      lines = s.lines;
      points = s.points;
      counts = s.counts;
      rated = s.rated;
      records = s.records;
      done = s.done;
      stage = s.stage;
      held = held;
      returned = returned;
      line = line;
    }

-- Characters come behind those of the unfinished line, or the CR does.
unfoldable pub with_text : Text → Link → Link
unfolding written
with_text t s = held_as (s.held + length t) s.returned (written s.line s.held t) s

unfoldable pub with_return : Link → Link
with_return s = held_as s.held 1 s.line s

abbrev pub on_link : (Link → Link) → Holding → Holding
on_link f h = holding (f h.link) h.verdicts h.worked

-- 2: no line can have this byte there.
unfoldable pub no_line_here : Holding → Holding
unfolding stopped
no_line_here h = stopped h (refusal 2 (line_of h.link) 0)

-- Behind the CR only LF can come.
unfoldable pub behind_return : Rules → Holding → ℕ → Holding
unfolding finishes no_line_here
behind_return R h b = cond (eqb b 10) (finishes R h (begun h.link)) (no_line_here h)

-- In front of it an allowed character, as long as there are not 75, or the CR.
unfoldable pub in_line : Rules → Holding → ℕ → Holding
unfolding with_return with_text no_line_here
in_line R h b =
    cond (eqb b 13) (on_link with_return h)
    (cond (allowed b && ltb h.link.held R.longest_line) (on_link (with_text (b ∷ [])) h) (no_line_here h))

unfoldable pub of_line : Rules → Holding → ℕ → Holding
unfolding behind_return in_line
of_line R h b = cond (has_return h.link) (behind_return R h b) (in_line R h b)

-- 6: the log "goes on after the last".
unfoldable pub placed : Rules → Holding → ℕ → Due → Holding
unfolding of_line stopped
placed R h b Identifier = of_line R h b
placed R h b (Keyword k) = of_line R h b
placed R h b Remarks = of_line R h b
placed R h b Remark = of_line R h b
placed R h b (Record n) = of_line R h b
placed R h b End = stopped h (refusal 6 (line_of h.link) 0)

unfoldable pub byte_in : Rules → Holding → ℕ → Holding
unfolding placed due_at
byte_in R h b = cond (is_open h.link) (placed R h b (due_of h.link)) h

-- Bytes of which each is counted already.
unfoldable pub bytes_in : Rules → Holding → Text → Holding
unfolding byte_in
bytes_in R h [] = h
bytes_in R h (b ∷ s) = bytes_in R (byte_in R h b) s

-- # The calls

-- No number runs over in a state that calls come to: there are as many bytes as a log may have, as many lines as bytes, and 75 characters.
abbrev pub sound_tests : Rules → Link → List Bool
sound_tests R s = leb s.count R.longest_log ∷ leb s.lines s.count ∷ leb s.held 75 ∷ []

unfoldable pub is_sound : Rules → Link → Bool
unfolding conjunction
is_sound R s = conjunction (sound_tests R s)

-- A link that no opening made is answered as one that was closed; then 7, "before any byte is taken, when a later call, the closing too, lends too
-- little for N".
unfoldable pub asked : Rules → Lent → Link → Link
unfolding is_sound if_long stopped_by
asked R lent s =
    let sound = cond (is_sound R s) (if_long lent s) (stopped_by (refusal 13 0 0)) in
    cond (is_open s) sound s

unfoldable pub counted : ℕ → Link → Link
counted n s =
    record {
      refusal = s.refusal;
      count = s.count + n;
      lines = s.lines;
      points = s.points;
      counts = s.counts;
      rated = s.rated;
      records = s.records;
      done = s.done;
      stage = s.stage;
      held = s.held;
      returned = s.returned;
      line = s.line;
    }

-- "number 1 comes at the 65,536th byte, unless the bytes before it already settle a refusal": whether such a byte comes.
unfoldable pub overrun : Bool → Holding → Holding
unfolding stopped
overrun over h = cond (over && is_open h.link) (stopped h (refusal 1 0 0)) h

-- As many bytes are taken as there is room for.
unfoldable pub taken : Rules → Holding → Text → Holding
unfolding bytes_in counted overrun
taken R h s =
    let n = min (length s) (R.longest_log - h.link.count) in
    overrun (ltb n (length s)) (bytes_in R (on_link (counted n) h) (take n s))

unfoldable pub feed : Rules → Holding → Text → Holding
unfolding asked taken
feed R h s =
    let a = asked R (lent_by h) h.link in
    let after = taken R (holding a h.verdicts h.worked) s in
    cond (is_open a) after (holding a h.verdicts h.worked)

-- The closing refuses, or repeats a refusal.
unfoldable pub unended : Link → Closing
unfolding zero_totals
unended s = record { link = s; refusal = s.refusal; totals = zero_totals }

-- The bytes behind the last finished line.
abbrev pub rest_of : Link → Text
rest_of s = begun s ++ cond (has_return s) (13 ∷ []) []

-- "13 a call after a closing that accepted": it is what every further call finds.
unfoldable pub accepted_by : Rules → Link → Closing
unfolding stopped_by no_refusal totals_kept sums_in declared_in
accepted_by R s =
    record {
      link = stopped_by (refusal 13 0 0);
      refusal = no_refusal;
      totals = totals_kept R (sums_in s.points s.counts) (declared_in s.rated);
    }

unfoldable pub ended_by : Rules → Link → Reading → Closing
unfolding accepted_by stopped_by unended
ended_by R s (accepted log) = accepted_by R s
ended_by R s (refused r) = unended (stopped_by r)

unfoldable pub ended : Rules → Link → Closing
unfolding ended_by at_rest due_at
ended R s = ended_by R s (at_rest (due_of s) (line_of s) (rest_of s))

unfoldable pub close : Rules → Lent → Link → Closing
unfolding ended asked unended
close R lent s =
    let a = asked R lent s in
    cond (is_open a) (ended R a) (unended a)
