-- A line is kept behind the records that are kept, so many bytes of each: it is told what judging says, and then verdicts and bytes are those of one more.
-- Assumes nothing.
use Prim.Native.Nat.{ℕ, suc, ◌+◌, ◌*◌, ◌≤◌, ◌<◌}
use native.Mathlib.Omega.{arith}
use native.Mathlib.Nat.{add-mul}
use mathlib.Core.Path.{◌≡◌, sym, ap, ◌∙◌}
use mathlib.Core.Bool.{true}
use mathlib.Core.List.{List, [], ◌∷◌, ◌++◌, map, map-append}
use lib.ListN.{length, take, set}
use lib.Seq.{take-suc-set}
use Rattle.rules.specs.declared.Verdict.{Verdict}
use Rattle.rules.specs.Text.{Text, parts}
use Rattle.rules.specs.Rules.{Rules}
use Rattle.rules.specs.Fields.{Qso, field_rules, qso_of}
use Rattle.rules.specs.Log.{conjunction, record_rules}
use Rattle.rules.specs.Judging.{verdict_of, verdict_number, verdicts}
use Rattle.rules.specs.Reading.{keeps, record_rule}
use Rattle.rules.proofs.Classes.{length_verdicts}
use Rattle.rules.proofs.FieldLaws.{record_is}
use Rattle.writer.specs.Written.{written}
use Rattle.session.specs.Entry.{kept_of, bytes_of, credited_from, FitsBytes, record_of, said_of, with_bytes}
use Rattle.session.proofs.MoreLaws.{verdicts_more, bytes_more}
use Rattle.session.proofs.EntryLaws.{length_front}
use Rattle.session.proofs.JudgedLaws.{said_as_judged}
use Rattle.session.proofs.SliceLaws.{front_written, length_written}

-- A slice begins with what is kept of these records, so many bytes of each, and they keep the rules: what one has between two lines who judges line by line.
pub record Stores (R : Rules) (width : ℕ) (qs : List Qso) (kept : List ℕ) : Type 0 where
  pub wide : 24 ≤ width
  pub narrow : width ≤ 28
  pub ruled : record_rules R qs ≡ true
  pub are : take (length qs * width) kept ≡ bytes_of R width qs (verdicts R qs)

module _ {R : Rules} (B : FitsBytes R) {width : ℕ} {qs : List Qso} {kept : List ℕ} (stores : Stores R width qs kept) (l : Text) (rule : record_rule R l ≡ keeps) where
  abbrev n : ℕ
  n = length qs

  abbrev q : Qso
  q = qso_of (parts l)

  abbrev v : Verdict
  v = verdict_of R (credited_from R [] qs) q

  abbrev with : List Qso
  with = qs ++ (q ∷ [])

  line_ruled : conjunction (field_rules R q) ≡ true
  line_ruled = (record_is R l rule).rules

  -- What is said of the record on the line is what judging says of it behind the others.
  pub line_said : said_of R l n width kept ≡ v
  unfolding said_of record_of
  line_said = said_as_judged B width stores.wide stores.narrow kept qs stores.ruled stores.are q line_ruled

  -- So its verdict behind theirs gives the verdicts of all.
  pub line_verdicts : (told : List ℕ) → take n told ≡ map verdict_number (verdicts R qs) → n < length told →
      take (n + 1) (set told n (verdict_number (said_of R l n width kept))) ≡ map verdict_number (verdicts R with)
  line_verdicts told before below =
      let number = verdict_number (said_of R l n width kept) in
      let one : n + 1 ≡ suc n = omega arith in
      ap (λ (m : ℕ). take m (set told n number)) one
      ∙ take-suc-set told n number below
      ∙ (λ i. before i ++ (verdict_number (line_said i) ∷ []))
      ∙ sym (map-append verdict_number (verdicts R qs) (v ∷ []))
      ∙ ap (map verdict_number) (sym (verdicts_more R q qs))

  -- And its bytes behind theirs are the bytes of all.
  module _ (room : n * width + width ≤ length kept) where
    abbrev front : Text
    front = take width (kept_of R v.class q)

    front_width : length front ≡ width
    front_width = length_front B q line_ruled width stores.narrow v.class

    bytes_said : with_bytes R l n width kept ≡ written kept (n * width) front
    unfolding with_bytes record_of
    bytes_said = λ i. written kept (n * width) (take width (kept_of R (line_said i).class q))

    pub line_bytes_lem : take ((n + 1) * width) (with_bytes R l n width kept) ≡ bytes_of R width with (verdicts R with)
    line_bytes_lem =
        let one : (n + 1) * width ≡ n * width + width = omega (arith, add-mul n 1 width) in
        (λ i. take (one i) (bytes_said i))
        ∙ front_written kept (n * width) width front front_width room
        ∙ ap (λ (t : List ℕ). t ++ front) stores.are
        ∙ sym (bytes_more R q width v qs (verdicts R qs) (length_verdicts R qs))
        ∙ ap (bytes_of R width with) (sym (verdicts_more R q qs))

    pub line_keeps_length : length (with_bytes R l n width kept) ≡ length kept
    line_keeps_length = ap length bytes_said ∙ length_written kept (n * width) width front front_width room
