-- A log so written reads to the same classes and total and is written back unchanged.
-- Assumes nothing.
use Prim.Native.Nat.{ℕ, ◌≤◌}
use native.Mathlib.Omega.{arith}
use mathlib.Core.Path.{◌≡◌, refl, sym, ◌∙◌}
use mathlib.Core.Bool.{Bool, true, false, cond}
use lib.Dec.{T, leb}
use lib.ListN.{length}
use borrow.Author.Tests.{leb-true, le-leb}
use Rattle.rules.specs.declared.Refusal.{Refusal}
use Rattle.rules.specs.Text.{Text}
use Rattle.rules.specs.Rules.{Rules, base}
use Rattle.rules.specs.Log.{Log, valid, render}
use Rattle.rules.specs.Judging.{totals_of_log}
use Rattle.rules.specs.Writing.{written_back}
use Rattle.rules.specs.Reading.{accepted, refusal, read}
use Rattle.rules.specs.Answers.{written, unwritten, write}
use Rattle.rules.specs.Demands.{WritingBackIsStable}
use Rattle.rules.proofs.Tests.{and_l}
use Rattle.rules.proofs.Format.{accepted_when_written}
use Rattle.rules.proofs.WrittenValid.{HaveRoom, written_valid}
use Rattle.rules.proofs.Bounds.{log_within}
use Rattle.rules.proofs.WritingAnswer.{fitting, write_law}
use Rattle.rules.proofs.WrittenVerdicts.{written_verdicts}
use Rattle.rules.proofs.WrittenClaims.{totals_kept_lem, written_twice}

-- What was written, if anything was.
record Wrote (test : Bool) (result t : Text) : Type 0 where
  fitted : test ≡ true
  is : result ≡ t

wrote : (test : Bool) (result t : Text) (r : Refusal) → cond test (written result) (unwritten r) ≡ written t → Wrote test result t
wrote true result t r e = record { fitted = refl; is = cc }
wrote false result t r e = let z : ◌≡◌ {A = ℕ} 0 1 = cc in absurd (omega arith)

-- A valid log that is written back is valid, if it is no longer than a log may be: the claims that are recomputed have room in their places.
abbrev pub ClaimsHaveRoom : Rules → Type 0
ClaimsHaveRoom R =
    (log : Log) →
    T (valid R log) →
    length (render (written_back R log)) ≤ R.longest_log →
    T (valid R (written_back R log))

-- Of any rules that leave them that room.
module _ (R : Rules) (room-for-claims : ClaimsHaveRoom R) where
  -- What is written back unchanged is written as it was.
  written_as_it_was : (room : ℕ) (log : Log) (t : Text) →
      read R t ≡ accepted log →
      written_back R log ≡ log →
      render log ≡ t →
      length t ≤ R.longest_log →
      length t ≤ room →
      write R room t ≡ written t
  written_as_it_was room log t r e f h k =
      let long : leb (length t) R.longest_log ≡ true = le-leb (length t) R.longest_log h in
      let wide : leb (length t) room ≡ true = le-leb (length t) room k in
      write_law R room t log r ∙ rw (e, f, long, wide)

  pub stable : WritingBackIsStable R
  stable s log room t e w =
      let back = written_back R log in
      let k = wrote (fitting R room (render back)) (render back) t (refusal 8 0 0) (sym (write_law R room s log e) ∙ w) in
      let short : length (render back) ≤ R.longest_log = leb-true (length (render back)) R.longest_log (and_l (leb (length (render back)) R.longest_log) (leb (length (render back)) room) k.fitted) in
      let valid-back = room-for-claims log ((accepted_when_written R s log).0 e).0 short in
      let reads : read R t ≡ accepted back = (accepted_when_written R t back).1 (valid-back, k.is) in
      record {
        reads = reads;
        same_verdicts = written_verdicts R log;
        same_totals = totals_kept_lem R log;
        unchanged = λ more h. written_as_it_was more back t reads (written_twice R log) k.is (rw k.is at short) h;
      }

-- What a valid log comes to has room in the places of its claims.
claims_have_room : (log : Log) → T (valid base log) → HaveRoom (totals_of_log base log)
unfolding base
claims_have_room log v =
    let w = log_within base log v in
    record {
      credited = omega (arith, w.credited);
      points = omega (arith, w.points);
      squares = omega (arith, w.squares, w.credited);
      squarebonus = omega (arith, w.squarebonus);
      exchanges = omega (arith, w.exchanges, w.credited);
      exchangebonus = omega (arith, w.exchangebonus);
      countries = omega (arith, w.countries, w.credited);
      countrybonus = omega (arith, w.countrybonus);
      total = omega (arith, w.total);
    }

pub base_has_room : ClaimsHaveRoom base
base_has_room log v h = written_valid log (claims_have_room log v) v h
