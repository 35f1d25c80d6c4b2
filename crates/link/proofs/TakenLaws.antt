-- A finished line: in front of the records, and a record.
-- Assumes nothing.
use Prim.Native.Nat.{ℕ, zero, suc, ◌+◌, ◌-◌, ◌%◌, ◌≤◌, ◌<◌}
use native.Mathlib.Omega.{arith}
use mathlib.Core.Path.{◌≡◌, refl, sym, ap, ◌∙◌}
use mathlib.Core.Bool.{Bool, true, false, cond, not, ◌&&◌}
use mathlib.Core.List.{List, [], ◌∷◌}
use lib.Dec.{eqb, leb}
use lib.ListN.{length, set}
use borrow.Author.Tests.{ne_eqb, eqb-false, leb-false, lt-ltb, le-ltb, not-true, not-false}
use Rattle.std.specs.Prelude.{Result, Ok, Err}
use Rattle.rules.specs.declared.Fault.{Fault}
use Rattle.rules.specs.declared.Due.{Due}
use Rattle.rules.specs.declared.Due.TheVariants.{Identifier, Keyword, Remarks, Remark}
use Rattle.rules.specs.Text.{Text}
use Rattle.rules.specs.Rules.{Rules}
use Rattle.rules.specs.Judging.{verdict_number}
use Rattle.rules.specs.Reading.{refusal, RecordRule, keeps, breaks, record_rule, records_due, step}
use Rattle.rules.specs.Link.{Lent, is_short, worked_bytes}
use Rattle.rules.proofs.FieldLaws.{record_is}
use Rattle.rules.proofs.Tests.{clash}
use Rattle.judge.specs.Bounds.{most_worth}
use Rattle.judge.specs.declared.Counted.{Counted}
use Rattle.judge.specs.declared.Counts.{Counts}
use Rattle.judge.specs.Narrow.{low, counted_more}
use Rattle.writer.proofs.WrittenLaws.{written_byte}
use Rattle.session.specs.declared.KeptLine.{KeptLine}
use Rattle.session.specs.Entry.{record_of, keeps_rules, has_place_for, is_kept, said_of, told_line, not_taken, line_kept, verdicts_kept, with_bytes, bytes_kept}
use Rattle.session.proofs.StepLaws.{keeps_broken, keeps_one}
use Rattle.session.proofs.ComeLaws.{worth_within}
use Rattle.link.specs.declared.Link.{Link}
use Rattle.link.specs.declared.Rated.{Rated}
use Rattle.link.specs.Link.{Holding, holding, no_line, stopped_by, stopped, line_of, due_at, due_of, is_end, announced, bonus_on, multiplier_on, rated_at, rated_by, went_on, if_long, head_goes, head_next, head_line, with_record, record_told, record_line, lent_by, finishes, with_text, counted}
use Rattle.link.proofs.StateLaws.{due_keyword, end_late}

-- # What is declared

module _ (R : Rules) (s : Link) (l : Text) where
  abbrev rates_as : ℕ → ℕ → ℕ → ℕ → ℕ → ℕ → Rated
  rates_as a b c d e f =
      record {
        squarebonus = a;
        squaremultiplier = b;
        exchangebonus = c;
        exchangemultiplier = d;
        countrybonus = e;
        countrymultiplier = f;
      }

  rated_keyword : (k : ℕ) → s.stage ≡ k + 1 → k < 36 → rated_at R k l s.rated ≡ rated_by R (due_of s) l s.rated
  unfolding rated_by
  rated_keyword k e h =
      let due : Keyword k ≡ due_of s = (let before : k ≡ s.stage - 1 = omega (arith, e) in ap Keyword before) ∙ due_keyword s.stage (s.records - s.done) (λ z. omega (arith, e)) (omega (arith, e, h)) in
      ap (λ (d : Due). rated_by R d l s.rated) due

  module _ {b m : ℕ} (bonus : b ≡ low (bonus_on R l)) (multiplier : m ≡ low (multiplier_on R l)) where
    pub rated_squares : s.stage ≡ 29 → rates_as b m s.rated.exchangebonus s.rated.exchangemultiplier s.rated.countrybonus s.rated.countrymultiplier ≡ rated_by R (due_of s) l s.rated
    unfolding rated_at
    rated_squares e =
        (λ i. rates_as (bonus i) (multiplier i) s.rated.exchangebonus s.rated.exchangemultiplier s.rated.countrybonus s.rated.countrymultiplier) ∙ rated_keyword 28 e (omega arith)

    pub rated_exchanges : s.stage ≡ 31 → rates_as s.rated.squarebonus s.rated.squaremultiplier b m s.rated.countrybonus s.rated.countrymultiplier ≡ rated_by R (due_of s) l s.rated
    unfolding rated_at
    rated_exchanges e =
        (λ i. rates_as s.rated.squarebonus s.rated.squaremultiplier (bonus i) (multiplier i) s.rated.countrybonus s.rated.countrymultiplier) ∙ rated_keyword 30 e (omega arith)

    pub rated_countries : s.stage ≡ 33 → rates_as s.rated.squarebonus s.rated.squaremultiplier s.rated.exchangebonus s.rated.exchangemultiplier b m ≡ rated_by R (due_of s) l s.rated
    unfolding rated_at
    rated_countries e =
        (λ i. rates_as s.rated.squarebonus s.rated.squaremultiplier s.rated.exchangebonus s.rated.exchangemultiplier (bonus i) (multiplier i)) ∙ rated_keyword 32 e (omega arith)

  pub rated_not : (s.stage ≡ 29 → ⊥) → (s.stage ≡ 31 → ⊥) → (s.stage ≡ 33 → ⊥) → s.rated ≡ rated_by R (due_of s) l s.rated
  unfolding due_at rated_by records_due
  rated_not a b c = by (eqb s.stage 0) (leb s.stage 36) (eqb s.stage 37) (eqb s.stage 38) refl
    where
      late : (left : ℕ) → s.rated ≡ rated_by R (records_due left) l s.rated
      late zero = refl
      late (suc n) = refl

      keyword : eqb s.stage 0 ≡ false → s.rated ≡ rated_at R (s.stage - 1) l s.rated
      keyword z =
          let some = eqb-false s.stage 0 z in
          unfold rated_at in rw (ne_eqb (s.stage - 1) 28 (λ e. a (omega (arith, e, some))), ne_eqb (s.stage - 1) 30 (λ e. b (omega (arith, e, some))), ne_eqb (s.stage - 1) 32 (λ e. c (omega (arith, e, some))))

      by : (x y z w : Bool) → eqb s.stage 0 ≡ x → s.rated ≡ rated_by R (cond x Identifier (cond y (Keyword (s.stage - 1)) (cond z Remarks (cond w Remark (records_due (s.records - s.done)))))) l s.rated
      by true y z w e = refl
      by false true z w e = keyword e
      by false false true w e = refl
      by false false false true e = refl
      by false false false false e = late (s.records - s.done)

-- # In front of the records

module _ (R : Rules) (s : Link) (l : Text) where
  abbrev went_with : Rated → ℕ → ℕ → ℕ → Link
  went_with rated stage records done =
      record {
        refusal = s.refusal;
        count = s.count;
        lines = s.lines + 1;
        points = s.points;
        counts = s.counts;
        rated = rated;
        records = records;
        done = done;
        stage = stage;
        held = 0;
        returned = 0;
        line = no_line;
      }

  pub went_by : (stage records done : ℕ) {r : Rated} → r ≡ rated_by R (due_of s) l s.rated → went_with r stage records done ≡ went_on R s l stage records done
  unfolding went_on
  went_by stage records done e = λ i. went_with (e i) stage records done

  pub head_stops : (lent : Lent) (f : Fault) → step R (due_of s) l ≡ Err f → stopped_by (refusal f.number (line_of s) f.field) ≡ head_line R lent s l
  unfolding head_line head_next
  head_stops lent f e = rw e

  pub head_on : (lent : Lent) (next : Due) → step R (due_of s) l ≡ Ok next → head_goes R lent s l next ≡ head_line R lent s l
  unfolding head_line head_next
  head_on lent next e = rw e

-- The stage behind so many keywords.
pub low_next : (k : ℕ) → low (k % 65_536 + 1) ≡ low (k + 1)
low_next k = omega arith

-- The slices suffice, or they do not.
pub long_kept : (lent : Lent) {t w : Link} → t ≡ w → not (is_short lent (announced t)) ≡ true → t ≡ if_long lent w
unfolding if_long
long_kept lent {t} {w} e h =
    let long : is_short lent (announced w) ≡ false = ap (λ (x : Link). is_short lent (announced x)) (sym e) ∙ not-true (is_short lent (announced t)) h in
    e ∙ rw long

pub long_lacking : (lent : Lent) {t w : Link} → t ≡ w → not (is_short lent (announced t)) ≡ false → stopped_by (refusal 7 0 0) ≡ if_long lent w
unfolding if_long
long_lacking lent {t} {w} e h =
    let short : is_short lent (announced w) ≡ true = ap (λ (x : Link). is_short lent (announced x)) (sym e) ∙ not-false (is_short lent (announced t)) h in
    rw short

-- # A record

module _ (s : Link) where
  abbrev more_with : ℕ → Counts → Link
  more_with points counts =
      record {
        refusal = s.refusal;
        count = s.count;
        lines = s.lines + 1;
        points = points;
        counts = counts;
        rated = s.rated;
        records = s.records;
        done = s.done + 1;
        stage = s.stage;
        held = 0;
        returned = 0;
        line = no_line;
      }

  pub record_by : (worth mode number : ℕ) {c : Counted} → c ≡ counted_more s.points s.counts worth mode number → more_with c.points c.counts ≡ with_record s worth mode number
  unfolding with_record
  record_by worth mode number e = λ i. more_with (e i).points (e i).counts

module _ (R : Rules) (s : Link) (l : Text) (verdicts worked : List ℕ) where
  abbrev h : Holding
  h = holding s verdicts worked

  abbrev told : Result KeptLine Fault
  told = line_kept R l s.done worked_bytes verdicts worked

  record_by_told : {k : Result KeptLine Fault} → k ≡ told → record_told s k ≡ (record_line R h l).link
  unfolding record_line
  record_by_told e = ap (record_told s) e

  pub record_refused : {k : Result KeptLine Fault} {e : Fault} → k ≡ told → k ≡ Err e → stopped_by (refusal e.number (line_of s) e.field) ≡ (record_line R h l).link
  unfolding record_told
  record_refused same is_err = record_by_told (sym is_err ∙ same)

  pub record_kept : {k : Result KeptLine Fault} {added : KeptLine} → k ≡ told → k ≡ Ok added → with_record s added.worth added.mode added.number ≡ (record_line R h l).link
  unfolding record_told
  record_kept same is_ok = record_by_told (sym is_ok ∙ same)

  -- What a line is worth.
  worth_in : Result KeptLine Fault → ℕ
  worth_in (Ok k) = k.worth
  worth_in (Err e) = 0

  worth_of : (rule : RecordRule) → record_rule R l ≡ rule → (b : Bool) → worth_in (cond (keeps_rules rule && b) (Ok (told_line R l s.done worked_bytes worked)) (Err (not_taken rule))) ≤ most_worth R
  unfolding worth_in told_line record_of
  worth_of keeps e true = worth_within R (record_of l) (record_is R l e).rules
  worth_of keeps e false = omega arith
  worth_of (breaks field) e b = omega arith

  told_worth : worth_in told ≤ most_worth R
  unfolding line_kept is_kept
  told_worth = worth_of (record_rule R l) refl (has_place_for s.done worked_bytes (length verdicts) (length worked))

  pub kept_worth : {k : Result KeptLine Fault} {added : KeptLine} → k ≡ told → k ≡ Ok added → added.worth ≤ most_worth R
  unfolding worth_in
  kept_worth same is_ok = let e = ap worth_in (sym is_ok ∙ same) in omega (arith, e, told_worth)

  pub record_verdicts : {out : List ℕ} → out ≡ verdicts_kept R l s.done worked_bytes verdicts worked → out ≡ (record_line R h l).verdicts
  unfolding record_line
  record_verdicts e = e

  pub record_worked : {out : List ℕ} → out ≡ bytes_kept R l s.done worked_bytes verdicts worked → out ≡ (record_line R h l).worked
  unfolding record_line
  record_worked e = e

  -- # Either

  pub finished_head : s.stage < 39 → holding (head_line R (lent_by h) s l) verdicts worked ≡ finishes R h l
  unfolding finishes
  finished_head e = rw (lt-ltb s.stage 39 e)

  pub finished_record : 39 ≤ s.stage → record_line R h l ≡ finishes R h l
  unfolding finishes
  finished_record e = rw (le-ltb s.stage 39 e)

-- A record's line, by whether it breaks a rule; where it does not, there is a place for it.
module _ (R : Rules) (h : Holding) (l : Text) where
  abbrev record_place : ℕ
  record_place = h.link.done

  pub record_broken : (field : ℕ) → record_rule R l ≡ breaks field → record_line R h l ≡ stopped h (refusal 5 (line_of h.link) field)
  unfolding record_line record_told stopped
  record_broken field e =
      let told = keeps_broken R l record_place worked_bytes h.verdicts h.worked e refl in
      λ i. holding (record_told h.link (sym told.0 i)) (sym told.1.0 i) (sym told.1.1 i)

  pub record_added : record_rule R l ≡ keeps → has_place_for record_place worked_bytes (length h.verdicts) (length h.worked) ≡ true → record_line R h l ≡ holding (record_told h.link (Ok (told_line R l record_place worked_bytes h.worked))) (set h.verdicts record_place (verdict_number (said_of R l record_place worked_bytes h.worked))) (with_bytes R l record_place worked_bytes h.worked)
  unfolding record_line
  record_added e place =
      let told = keeps_one R l record_place worked_bytes h.verdicts h.worked e place (refl, (refl, refl)) in
      λ i. holding (record_told h.link (sym told.0 i)) (sym told.1.0 i) (sym told.1.1 i)

-- A record is due where something is, behind the count line.
pub some_left : (s : Link) → 39 ≤ s.stage → is_end (due_of s) ≡ false → s.done < s.records
some_left s late e = by (leb s.records s.done) refl
  where
    by : (b : Bool) → leb s.records s.done ≡ b → s.done < s.records
    by true g = clash (sym (end_late s.stage s.records s.done (omega (arith, late))) ∙ g) e
    by false g = leb-false s.records s.done g

-- # One byte

module _ (s : Link) (b : ℕ) where
  abbrev byte_with : ℕ → List ℕ → Link
  byte_with returned line =
      record {
        refusal = s.refusal;
        count = s.count + 1;
        lines = s.lines;
        points = s.points;
        counts = s.counts;
        rated = s.rated;
        records = s.records;
        done = s.done;
        stage = s.stage;
        held = s.held + 1;
        returned = returned;
        line = line;
      }

  pub byte_by : s.returned ≡ 0 → s.held < length s.line → byte_with 0 (set s.line s.held b) ≡ counted 1 (with_text (b ∷ []) s)
  unfolding counted with_text
  byte_by e h = λ i. byte_with (sym e i) (written_byte s.line s.held b h i)
