-- The loops over the records: the line of a turn lies in order, and what is left of it is measured and laid.
-- Assumes nothing.
use Prim.Native.Nat.{ℕ, zero, suc, ◌+◌, ◌-◌, ◌≤◌, ◌<◌}
use native.Mathlib.Omega.{arith}
use native.Mathlib.Nat.{add-zero}
use native.Mathlib.Numerals.{add-one}
use mathlib.Core.Bool.{Bool, true, false, cond}
use mathlib.Core.List.{List, []}
use mathlib.Core.Path.{◌≡◌, refl, sym, ap, subst, ◌∙◌}
use lib.ListN.{length, get_or}
use Rattle.reader.specs.Contact.{between}
use Rattle.rules.specs.Striking.{Places, later, place_after}
use Rattle.rules.specs.Text.{Text}
use Rattle.writer.specs.Written.{texts, start_of}
use Rattle.writer.proofs.TextsLaws.{nothing_measured, next_measured, starts_first, starts_behind}
use Rattle.writer.proofs.WrittenLaws.{part_length}
use Rattle.striker.specs.Given.{LineLies, LinesLie}
use Rattle.striker.specs.KeptText.{kept_line, numbered_line, kept_lines}

module _ {s : Text} {first : ℕ} {ends : List ℕ} (lie : LinesLie s first ends) where
  pub lies_here : (i : ℕ) {start : ℕ} → i < length ends → start ≡ start_of 2 first ends i → LineLies s start (get_or ends i 0)
  lies_here i h e = rw e (lie.lies i h)

-- How long what is left of a line is.
pub line_long : (s : Text) (start next : ℕ) (struck : Bool) → start ≤ next → next ≤ length s → length (kept_line s start next struck) ≡ cond struck 0 (next - start)
line_long s start next true h g = refl
line_long s start next false h g = part_length s start next h g

-- A line that is struck, and one that is kept.
module _ (s : Text) (start next : ℕ) {struck : Bool} where
  pub line_gone : struck ≡ true → kept_line s start next struck ≡ []
  line_gone e = rw e

  pub line_stays : struck ≡ false → between s start next ≡ kept_line s start next struck
  line_stays e = rw e

-- How many records are left, behind one more.
place_next : (struck : Places) (n : ℕ) → place_after struck (suc n) ≡ place_after struck n + cond (struck n) 0 1
unfolding place_after
place_next struck zero = omega arith
place_next struck (suc n) = omega (arith, place_next (later struck) n)

pub place_more : (struck : Places) (n : ℕ) → place_after struck (n + 1) ≡ place_after struck n + cond (struck n) 0 1
place_more struck n = ap (place_after struck) (add-one n) ∙ place_next struck n

pub place_left : (struck : Places) (n : ℕ) {left : ℕ} → left ≡ place_after struck n → struck n ≡ false → left + 1 ≡ place_after struck (n + 1)
place_left struck n e g = omega (arith, e, place_more struck n, ap {B = ℕ} (λ (b : Bool). cond b 0 1) g)

pub place_struck : (struck : Places) (n : ℕ) {left : ℕ} → left ≡ place_after struck n → struck n ≡ true → left ≡ place_after struck (n + 1)
place_struck struck n e g = omega (arith, e, place_more struck n, ap {B = ℕ} (λ (b : Bool). cond b 0 1) g)

pub none_yet : (struck : Places) → 0 ≡ place_after struck 0
unfolding place_after
none_yet struck = refl

-- The line of a turn, and of all records.
module _ (s : Text) (first : ℕ) (ends : List ℕ) (struck : Places) where
  pub line_here : (i : ℕ) {start next : ℕ} {gone : Bool} → start ≡ start_of 2 first ends i → next ≡ get_or ends i 0 + 2 → gone ≡ struck i → kept_line s start next gone ≡ numbered_line s first ends struck i
  line_here i p q r = λ j. kept_line s (p j) (q j) (r j)

  pub lines_are_lem : (i : ℕ) → i ≡ length ends → texts (numbered_line s first ends struck) i ≡ kept_lines s first ends struck
  unfolding kept_lines
  lines_are_lem i e = ap (texts (numbered_line s first ends struck)) e

-- What is left of the first records is measured, and it is known where the next one begins.
pub record Measured (s : Text) (first : ℕ) (ends : List ℕ) (struck : Places) (records bytes start i : ℕ) : Type 0 where
  pub start_is : start ≡ start_of 2 first ends i
  pub records_are : records ≡ place_after struck i
  pub few : records ≤ i
  pub bytes_are : bytes ≡ length (texts (numbered_line s first ends struck) i)
  pub short : bytes ≤ start
  pub inside : start ≤ length s
  pub long : i ≤ start

module _ {s : Text} {first : ℕ} {ends : List ℕ} {struck : Places} (lie : LinesLie s first ends) where
  pub measured_none : Measured s first ends struck 0 0 first 0
  measured_none =
      record {
        start_is = starts_first 2 first ends;
        records_are = none_yet struck;
        few = omega arith;
        bytes_are = nothing_measured (numbered_line s first ends struck);
        short = omega arith;
        inside = lie.within;
        long = omega arith;
      }

  -- One more: it is kept, or it is struck.
  module _ {records bytes start i : ℕ} (m : Measured s first ends struck records bytes start i) (h : i < length ends) {next : ℕ} (e : next ≡ get_or ends i 0 + 2) where
    here : LineLies s start (get_or ends i 0)
    here = lies_here lie i h m.start_is

    measured : (gone : Bool) → struck i ≡ gone → Measured s first ends struck (records + cond gone 0 1) (bytes + cond gone 0 (next - start)) next (i + 1)
    measured gone g =
        let l = here in
        let line = line_here s first ends struck i m.start_is e (sym g) in
        let long = line_long s start next gone (omega (arith, l.order)) (omega (arith, l.inside)) in
        let most : cond gone 0 1 ≤ 1 = by gone in
        let few : cond gone 0 (next - start) ≤ next - start = bytes_most gone in
        record {
          start_is = starts_behind 2 first ends i e;
          records_are = omega (arith, m.records_are, place_more struck i, ap {B = ℕ} (λ (b : Bool). cond b 0 1) g);
          few = omega (arith, m.few, most);
          bytes_are = next_measured (numbered_line s first ends struck) i m.bytes_are (sym long ∙ ap length line);
          short = omega (arith, m.short, few, l.order);
          inside = omega (arith, l.inside);
          long = omega (arith, m.long, l.order);
        }
      where
        by : (gone : Bool) → cond gone 0 1 ≤ 1
        by true = omega arith
        by false = omega arith

        bytes_most : (gone : Bool) → cond gone 0 (next - start) ≤ next - start
        bytes_most true = omega arith
        bytes_most false = omega arith

    pub measured_kept : struck i ≡ false → Measured s first ends struck (records + 1) (bytes + (next - start)) next (i + 1)
    measured_kept g = measured false g

    pub measured_struck : struck i ≡ true → Measured s first ends struck records bytes next (i + 1)
    measured_struck g = subst (λ (b : ℕ). Measured s first ends struck records b next (i + 1)) (add-zero bytes) (subst (λ (r : ℕ). Measured s first ends struck r (bytes + 0) next (i + 1)) (add-zero records) (measured true g))
