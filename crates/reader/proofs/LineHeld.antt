-- A line by itself that is told to be a record is one, and its parts lie at the places that are told.
-- Assumes nothing.
use Prim.Native.Nat.{ℕ, ◌+◌, ◌-◌, ◌<◌}
use native.Mathlib.Omega.{arith}
use mathlib.Core.Path.{◌≡◌, refl, sym, ap, subst, ◌∙◌}
use mathlib.Core.List.{[], ◌∷◌, ◌++◌, append-nil}
use lib.Dec.{T, eqb}
use lib.ListN.{length, get_or}
use Rattle.std.specs.Prelude.{Ok, Err}
use Rattle.rules.specs.declared.Fault.{Fault}
use Rattle.rules.specs.Text.{Text, begins, joined, parts, same}
use Rattle.rules.specs.Rules.{Rules}
use Rattle.rules.specs.Fields.{Qso, duplicate_mark, empty_or, fields_of, qso_of}
use Rattle.rules.specs.Log.{record_line}
use Rattle.rules.specs.Reading.{breaks, keeps, record_rule}
use Rattle.rules.specs.Judging.{claims_duplicate}
use Rattle.rules.proofs.FieldLaws.{IsRecord, record_is}
use Rattle.rules.proofs.Passing.{same→equal}
use Rattle.fields.specs.Field.{end_of}
use Rattle.reader.specs.declared.Contact.{Contact}
use Rattle.reader.specs.Contact.{contact_at, field_start}
use Rattle.reader.specs.Record.{Alone, record_on}
use Rattle.reader.proofs.DueLaws.{kept_told, stops_told}
use Rattle.reader.proofs.PlaceLaws.{ends_behind, start_more, start_next, starts_rise}
use Rattle.reader.proofs.FieldsHeld.{byte_held}
use Rattle.reader.proofs.RecordsHeld.{Lies, described, first_is, last_is, last_measured, last_ruled, semicolon_is}
use Rattle.reader.proofs.ParseLaws.{kept_is, told_alone}

-- What is told of a line says whether it keeps the rules of a record.
pub kept_rule : (R : Rules) (l : Text) {c : Contact} → record_on R l ≡ Ok c → record_rule R l ≡ keeps
kept_rule R l e = kept_told (contact_at R l 0) (record_rule R l) (told_alone R l refl ∙ e)

pub stops_rule : (R : Rules) (l : Text) {e : Fault} → record_on R l ≡ Err e → record_rule R l ≡ breaks e.field
stops_rule R l e = (stops_told (contact_at R l 0) (record_rule R l) (told_alone R l refl ∙ e)).1

pub stops_number : (R : Rules) (l : Text) {e : Fault} → record_on R l ≡ Err e → e.number ≡ 5
stops_number R l e = (stops_told (contact_at R l 0) (record_rule R l) (told_alone R l refl ∙ e)).0

-- A line that keeps them: the record stands at its front, and nothing behind it.
module _ (R : Rules) (l : Text) (k : record_rule R l ≡ keeps) where
  abbrev q : Qso
  q = qso_of (parts l)

  whole : IsRecord R l
  whole = record_is R l k

  lies : Lies R l 0 q []
  unfolding record_line begins duplicate_mark
  lies =
      record {
        rules = whole.rules;
        there = sym (append-nil (joined (fields_of q)) ∙ whole.line);
        apart = refl;
      }

  abbrev field : ℕ → ℕ
  field j = field_start l 0 j

  ends : field 14 + length q.duplicate ≡ length l
  unfolding record_line
  ends = omega (arith, last_measured R l 0 q [] lies, ap length whole.line)

  -- Each field but the last ends within the line.
  inside : (j n : ℕ) → j + n ≡ 13 → end_of l (field j) < length l
  inside j n e =
      let m : j + 1 + n ≡ 14 = omega arith in
      omega (arith, ends, start_next l 0 j, starts_rise l (field (j + 1)) n, start_more l 0 (j + 1) n, ap field m)

  -- The line ends with the `D` of a duplicate, or with the semicolon in front of the last field.
  last_claims_lem : eqb (get_or l (length l - 1) 0) 68 ≡ claims_duplicate q
  unfolding claims_duplicate same empty_or duplicate_mark
  last_claims_lem = by q.duplicate refl (last_ruled R l 0 q [] lies)
    where
      by : (t : Text) → q.duplicate ≡ t → T (empty_or (same duplicate_mark) t) → eqb (get_or l (length l - 1) 0) 68 ≡ same t duplicate_mark
      by [] e h =
          let n : length l - 1 ≡ end_of l (field 13) = omega (arith, ends, ap length e, start_next l 0 13) in
          ap (λ (i : ℕ). eqb (get_or l i 0) 68) n ∙ ap (λ (b : ℕ). eqb b 68) (semicolon_is R l 0 q [] lies 13 (omega arith))
      by (c ∷ t) e h =
          let d : duplicate_mark ≡ c ∷ t = same→equal duplicate_mark (c ∷ t) h in
          let n : length l - 1 ≡ field 14 + 0 = omega (arith, ends, ap length e, ap length d) in
          ap (λ (i : ℕ). eqb (get_or l i 0) 68) n
          ∙ ap (λ (b : ℕ). eqb b 68) (byte_held l (field 14) 0 (last_is R l 0 q [] lies))
          ∙ ap (λ (u : Text). eqb (get_or (u ++ []) 0 0) 68) e
          ∙ subst (λ (u : Text). eqb (get_or (u ++ []) 0 0) 68 ≡ same u duplicate_mark) d refl

  alone : Alone R l (contact_at R l 0)
  unfolding contact_at fields_of
  alone =
      record {
        rules = whole.rules;
        describes = described R l 0 q [] lies;
        call = ends_behind l (field 2) refl;
        call_inside = omega (arith, inside 3 10 refl, ends_behind l (field 3) refl, start_next l 0 2);
        mode_begins = ap (λ (i : ℕ). get_or l i 0) (start_next l 0 2) ∙ first_is R l 0 q [] lies 3 (omega arith);
        exchange = ends_behind l (field 8) refl;
        exchange_inside = omega (arith, inside 8 5 refl);
        locator = ends_behind l (field 9) refl;
        locator_inside = omega (arith, inside 9 4 refl);
        last_claims = last_claims_lem;
      }

-- The line is a record, whose parts lie at these places.
pub alone_told : (R : Rules) (l : Text) {c : Contact} → record_on R l ≡ Ok c → Alone R l c
alone_told R l e =
    let k : record_rule R l ≡ keeps = kept_rule R l e in
    subst (Alone R l) (kept_is (contact_at R l 0) (told_alone R l k ∙ e)) (alone R l k)
