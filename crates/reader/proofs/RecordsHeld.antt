-- What is told at the place of a record is true of it. An accepted log holds its records one behind the other, and ends behind the last.
-- Assumes nothing.
use Prim.Native.Nat.{ℕ, suc, ◌+◌, ◌-◌, ◌≤◌, ◌<◌}
use native.Mathlib.Omega.{arith}
use mathlib.Core.Path.{◌≡◌, refl, sym, ap, subst, ◌∙◌}
use mathlib.Core.Bool.{Bool, true, false, cond, not, ◌||◌}
use mathlib.Core.List.{List, [], ◌∷◌, ◌++◌, map, append_assoc}
use lib.Dec.{T}
use lib.ListN.{length, drop, get_or, length-append, length-drop}
use lib.Seq.{drop-drop, drop-append-add, drop_at}
use Rattle.rules.specs.Text.{Text, bytes, semicolon, all, begins, same, joined, value, number_of}
use Rattle.rules.specs.Rules.{Rules}
use Rattle.rules.specs.Fields.{Qso, error_call, new_mark, duplicate_mark, is_error, empty_or, points_rule, fields_of, field_rules}
use Rattle.rules.specs.Arguments.{every}
use Rattle.rules.specs.Log.{Log, render, count_line, record_line, crlf, ended, conjunction, record_rules}
use Rattle.rules.specs.Reading.{read, accepted}
use Rattle.rules.specs.Judging.{claims_country, claims_duplicate}
use Rattle.rules.proofs.Tests.{so, holds, and_l, and_r}
use Rattle.rules.proofs.Passing.{same→equal}
use Rattle.rules.proofs.TextLaws.{plain}
use Rattle.rules.proofs.ValidLogs.{rule_at, points_ruled, records_valid}
use Rattle.rules.proofs.Format.{accepted_when_written, render_law}
use Rattle.rules.proofs.LogLaws.{front, lines_split}
use Rattle.rules.proofs.FieldLaws.{fields_plain}
use Rattle.fields.specs.Field.{text_at, end_of}
use Rattle.reader.specs.Contact.{field_start, value_by, last_end, contact_at, behind, between, claimed_at, mode_at, Describes, Holds}
use Rattle.reader.proofs.PlaceLaws.{no_letter, start_more, start_next, text_by_end}
use Rattle.reader.proofs.FieldsHeld.{first_held, semicolon_held, starts_held, starts_measured, texts_held}

-- # One record

-- A record that keeps its rules stands at a place, and a text behind it that begins with no letter of a duplicate.
pub record Lies (R : Rules) (s : Text) (at : ℕ) (q : Qso) (rest : Text) : Type 0 where
  pub rules : conjunction (field_rules R q) ≡ true
  pub there : drop at s ≡ joined (fields_of q) ++ rest
  pub apart : begins duplicate_mark rest ≡ false

module _ (R : Rules) (s : Text) (at : ℕ) (q : Qso) (rest : Text) (h : Lies R s at q rest) where
  plainly : every (all plain) (fields_of q) ≡ true
  plainly = fields_plain R q h.rules

  -- What stands where one of its fields begins.
  start_is : (k : ℕ) → k < 15 → drop (field_start s at k) s ≡ joined (drop k (fields_of q)) ++ rest
  unfolding fields_of
  start_is k g = starts_held s at (fields_of q) rest plainly h.there k g

  -- A field but the last begins with its first byte, or, where it is blank, with the semicolon that ends it.
  pub first_is : (k : ℕ) → suc k < 15 → get_or s (field_start s at k) 0 ≡ get_or (get_or (fields_of q) k []) 0 semicolon
  unfolding fields_of
  first_is k g = first_held s at (fields_of q) rest plainly h.there k g

  pub semicolon_is : (k : ℕ) → suc k < 15 → get_or s (end_of s (field_start s at k)) 0 ≡ semicolon
  unfolding fields_of
  semicolon_is k g = semicolon_held s at (fields_of q) rest plainly h.there k g

  field_is : (k : ℕ) → suc k < 15 → text_at s (field_start s at k) ≡ get_or (fields_of q) k []
  unfolding fields_of
  field_is k g = texts_held s at (fields_of q) rest plainly h.there k g

  between_is : (k : ℕ) → suc k < 15 → between s (field_start s at k) (end_of s (field_start s at k)) ≡ get_or (fields_of q) k []
  between_is k g = sym (text_by_end s (field_start s at k) refl) ∙ field_is k g

  points_number : number_of R.points_digits q.points ≡ true
  unfolding points_rule
  points_number =
      let p = so (points_rule R q) (points_ruled R q (holds h.rules)) in
      and_l (number_of R.points_digits q.points) (not (is_error q) || same q.points (bytes "0")) p

  worth_is_lem : value_by (number_of R.points_digits) (text_at s (field_start s at 10)) ≡ value q.points
  unfolding value_by fields_of
  worth_is_lem = rw (field_is 10 (omega arith), points_number)

  -- The last field stands in front of the text behind, and ends with the record.
  pub last_is : drop (field_start s at 14) s ≡ q.duplicate ++ rest
  unfolding fields_of joined
  last_is = start_is 14 (omega arith)

  pub last_measured : field_start s at 14 + length q.duplicate ≡ at + length (joined (fields_of q))
  unfolding fields_of joined
  last_measured = starts_measured s at (fields_of q) rest plainly h.there 14 (omega arith)

  -- It is a `D` or nothing, and so a `D` stands where it begins exactly if it is one.
  pub last_ruled : T (empty_or (same duplicate_mark) q.duplicate)
  unfolding field_rules
  last_ruled = rule_at (field_rules R q) 14 (holds h.rules)

  marked_is : begins duplicate_mark (drop (field_start s at 14) s) ≡ same q.duplicate duplicate_mark
  unfolding begins same empty_or duplicate_mark
  marked_is = ap (begins duplicate_mark) last_is ∙ by q.duplicate last_ruled
    where
      by : (t : Text) → T (empty_or (same duplicate_mark) t) → begins duplicate_mark (t ++ rest) ≡ same t duplicate_mark
      by [] g = h.apart
      by (c ∷ t) g = subst (λ (u : Text). begins duplicate_mark (u ++ rest) ≡ same u duplicate_mark) (same→equal duplicate_mark (c ∷ t) g) refl

  last_place : field_start s (end_of s (field_start s at 10) + 1) 3 ≡ field_start s at 14
  last_place = ap (λ (n : ℕ). field_start s n 3) (start_next s at 10) ∙ start_more s at 11 3

  duplicate_is_lem : claimed_at s (end_of s (field_start s at 10)) ≡ claims_duplicate q
  unfolding claims_duplicate
  duplicate_is_lem = ap (λ (n : ℕ). begins duplicate_mark (drop n s)) last_place ∙ marked_is

  mode_is_lem : mode_at s (end_of s (field_start s at 2)) ≡ q.mode
  unfolding fields_of
  mode_is_lem = ap (λ (n : ℕ). between s n (end_of s n)) (start_next s at 2) ∙ between_is 3 (omega arith)

  pub described : Describes s (contact_at R s at) q
  unfolding contact_at fields_of is_error claims_country
  described =
      record {
        call_is = between_is 2 (omega arith);
        mode_is = mode_is_lem;
        exchange_is = between_is 8 (omega arith);
        locator_is = between_is 9 (omega arith);
        points_are = between_is 10 (omega arith);
        worth_is = worth_is_lem;
        error_is = ap (λ (t : Text). same t error_call) (field_is 2 (omega arith));
        country_is = ap (λ (t : Text). same t new_mark) (field_is 13 (omega arith));
        duplicate_is = duplicate_is_lem;
      }

  end_is : (contact_at R s at).end ≡ field_start s at 14 + length q.duplicate
  unfolding contact_at last_end empty_or same duplicate_mark
  end_is = ap (λ (b : Bool). field_start s at 14 + cond b 1 0) marked_is ∙ by q.duplicate last_ruled
    where
      by : (t : Text) → T (empty_or (same duplicate_mark) t) → field_start s at 14 + cond (same t duplicate_mark) 1 0 ≡ field_start s at 14 + length t
      by [] g = refl
      by (c ∷ t) g = subst (λ (u : Text). field_start s at 14 + cond (same u duplicate_mark) 1 0 ≡ field_start s at 14 + length u) (same→equal duplicate_mark (c ∷ t) g) refl

-- # Records one behind the other

-- The lines of records, each with its end.
abbrev pub record_lines : List Qso → Text
record_lines qs = ended (map record_line qs)

-- Records that keep their rules stand at a place, one behind the other, to the end of the text.
pub record Stand (R : Rules) (s : Text) (at : ℕ) (qs : List Qso) : Type 0 where
  pub rules : record_rules R qs ≡ true
  pub lines : drop at s ≡ record_lines qs
  pub end : at + length (record_lines qs) ≡ length s

-- The first of them.
module _ (R : Rules) (s : Text) (at : ℕ) (q : Qso) (qs : List Qso) (h : Stand R s at (q ∷ qs)) where
  pub rules_kept : conjunction (field_rules R q) ≡ true
  unfolding record_rules
  rules_kept = and_l (conjunction (field_rules R q)) (record_rules R qs) h.rules

  pub stands : drop at s ≡ joined (fields_of q) ++ (crlf ++ record_lines qs)
  unfolding ended record_line
  stands = h.lines ∙ append_assoc (joined (fields_of q)) crlf (record_lines qs)

  lies : Lies R s at q (crlf ++ record_lines qs)
  lies = record { rules = rules_kept; there = stands; apart = no_letter (record_lines qs) }

  pub starts_at : (k : ℕ) → k < 15 → drop (field_start s at k) s ≡ joined (drop k (fields_of q)) ++ (crlf ++ record_lines qs)
  starts_at = start_is R s at q (crlf ++ record_lines qs) lies

  pub describes : Describes s (contact_at R s at) q
  describes = described R s at q (crlf ++ record_lines qs) lies

  last_stands : drop (field_start s at 14) s ≡ q.duplicate ++ 13 ∷ 10 ∷ record_lines qs
  unfolding crlf
  last_stands = last_is R s at q (crlf ++ record_lines qs) lies

  next_is : behind (contact_at R s at) ≡ field_start s at 14 + (length q.duplicate + 2)
  next_is = omega (arith, end_is R s at q (crlf ++ record_lines qs) lies)

  -- The next line begins behind the end of this one, within the text.
  next_stands : drop (behind (contact_at R s at)) s ≡ record_lines qs
  next_stands =
      ap (λ (n : ℕ). drop n s) next_is
      ∙ sym (drop-drop (length q.duplicate + 2) (field_start s at 14) s)
      ∙ ap (drop (length q.duplicate + 2)) last_stands
      ∙ drop-append-add q.duplicate (13 ∷ 10 ∷ record_lines qs) 2

  next_within : behind (contact_at R s at) + length (record_lines qs) ≡ length s
  next_within =
      let n : length s - field_start s at 14 ≡ length (q.duplicate ++ 13 ∷ 10 ∷ record_lines qs) = sym (length-drop (field_start s at 14) s) ∙ ap length last_stands in
      omega (arith, length-append q.duplicate (13 ∷ 10 ∷ record_lines qs), next_is)

  -- The others stand there.
  pub others_stand : Stand R s (behind (contact_at R s at)) qs
  unfolding record_rules
  others_stand =
      record {
        rules = and_r (conjunction (field_rules R q)) (record_rules R qs) h.rules;
        lines = next_stands;
        end = next_within;
      }

held : (R : Rules) (s : Text) (qs : List Qso) (at : ℕ) → Stand R s at qs → Holds R s at qs
unfolding ended
held R s [] at h = omega arith
held R s (q ∷ qs) at h = (describes R s at q qs h, held R s qs (behind (contact_at R s at)) (others_stand R s at q qs h))

-- # An accepted log

-- Where the first record of a log that is written begins.
abbrev pub records_start : Text → Log → ℕ
records_start s log = length s - length (record_lines log.records)

pub ended_append : (a b : List Text) → ended (a ++ b) ≡ ended a ++ ended b
unfolding ended
ended_append [] b = refl
ended_append (l ∷ a) b =
    ap (λ (t : Text). l ++ crlf ++ t) (ended_append a b) ∙ sym (append_assoc (l ++ crlf) (ended a) (ended b))

-- The lines of the records, and those in front of them, of which the count line is the last.
module _ (log : Log) where
  abbrev pub records : List Text
  records = map record_line log.records

  abbrev pub header : List Text
  header = front log ++ (count_line (length log.records) ∷ [])

  pub rendered : render log ≡ ended header ++ ended records
  rendered =
      render_law log
      ∙ ap ended (lines_split log ∙ sym (append_assoc (front log) (count_line (length log.records) ∷ []) records))
      ∙ ended_append header records

module _ (R : Rules) (s : Text) (log : Log) (w : read R s ≡ accepted log) where
  pub split : s ≡ ended (header log) ++ ended (records log)
  split = sym ((accepted_when_written R s log).0 w).1 ∙ rendered log

  pub starts : records_start s log ≡ length (ended (header log))
  starts = omega (arith, ap length split, length-append (ended (header log)) (ended (records log)))

  pub records_within : records_start s log ≤ length s
  records_within = omega arith

  pub records_stand : Stand R s (records_start s log) log.records
  records_stand =
      record {
        rules = so (record_rules R log.records) (records_valid R log ((accepted_when_written R s log).0 w).0);
        lines = ap (drop (records_start s log)) split ∙ drop_at (ended (header log)) (ended (records log)) (records_start s log) (sym starts);
        end = omega (arith, starts, ap length split, length-append (ended (header log)) (ended (records log)));
      }

  pub records_held : Holds R s (records_start s log) log.records
  records_held = held R s log.records (records_start s log) records_stand
