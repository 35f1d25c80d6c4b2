-- "Writing back": the log with the right claims, points and marks in the places of those that it claimed.
-- Assumes nothing.
use Rattle.std.specs.Prelude.{ℕ, cond, List, [], ◌∷◌, map, drop}
use Prim.Native.String.{String}
use Rattle.rules.specs.declared.Class.TheVariants.{Credited, Duplicate}
use Rattle.rules.specs.declared.Verdict.{Verdict}
use Rattle.rules.specs.declared.Totals.{Totals}
use Rattle.rules.specs.Text.{Text, bytes, same, digits, parts, joined}
use Rattle.rules.specs.Rules.{Rules}
use Rattle.rules.specs.Fields.{Qso, new_mark, duplicate_mark}
use Rattle.rules.specs.Arguments.{Entry, entries}
use Rattle.rules.specs.Log.{Log, keywords_of}
use Rattle.rules.specs.Judging.{is, zero_totals, verdicts_of_log, totals_of_log}

-- The first of several arguments becomes this text.
unfoldable pub recounted : Text → Text → Text
unfolding joined parts
recounted new t = joined (new ∷ drop 1 (parts t))

-- A keyword, and what its argument becomes.
pub record Claim : Type 0 where
  pub keyword : Text
  pub becomes : Text → Text

-- The count in the argument of a keyword, or the whole argument, becomes this text.
abbrev count : String → Text → Claim
count name new = record { keyword = bytes name; becomes = recounted new }

abbrev whole : String → Text → Claim
whole name new = record { keyword = bytes name; becomes = λ t. new }

-- "the counts in CQSOs, CWWLs, CExcs, CDXCs, and CQSOP, CWWLB, CExcB, CDXCB and CToSc, become the recomputed ones. .. CODXC stays."
unfoldable pub claims : (ℕ → Text) → Totals → List Claim
unfolding recounted
claims inDigits t =
    count "CQSOs" (inDigits t.credited)
    ∷ whole "CQSOP" (inDigits t.points)
    ∷ count "CWWLs" (inDigits t.squares)
    ∷ whole "CWWLB" (inDigits t.squarebonus)
    ∷ count "CExcs" (inDigits t.exchanges)
    ∷ whole "CExcB" (inDigits t.exchangebonus)
    ∷ count "CDXCs" (inDigits t.countries)
    ∷ whole "CDXCB" (inDigits t.countrybonus)
    ∷ whole "CToSc" (inDigits t.total)
    ∷ []

-- "Every byte is copied but these": an argument that no claim names stays as it was.
unfoldable pub claimed : List Claim → Text → Text → Text
unfolding same
claimed [] keyword t = t
claimed (c ∷ cs) keyword t =
    let here = c.becomes t in
    let later = claimed cs keyword t in
    cond (same c.keyword keyword) here later

unfoldable pub written_arguments : List Claim → List Entry → List Text → List Text
unfolding claimed
written_arguments cs [] ts = ts
written_arguments cs (e ∷ es) [] = []
written_arguments cs (e ∷ es) (t ∷ ts) = claimed cs e.keyword t ∷ written_arguments cs es ts

-- "In each record New-Exchange and New-WWL become the judged marks, New-DXCC is kept on credited records and emptied elsewhere, the last
-- field is `D` exactly on duplicates, and a duplicate's points become 0."
unfoldable pub written_record : Verdict → Qso → Qso
unfolding is new_mark duplicate_mark
written_record v q =
    record {
      date = q.date;
      time = q.time;
      call = q.call;
      mode = q.mode;
      sent_report = q.sent_report;
      sent_number = q.sent_number;
      received_report = q.received_report;
      received_number = q.received_number;
      exchange = q.exchange;
      locator = q.locator;
      points = cond (is Duplicate v.class) (bytes "0") q.points;
      new_exchange = cond v.exchange new_mark [];
      new_square = cond v.square new_mark [];
      new_country = cond (is Credited v.class) q.new_country [];
      duplicate = cond (is Duplicate v.class) duplicate_mark [];
    }

unfoldable pub written_records : List Verdict → List Qso → List Qso
unfolding written_record
written_records [] qs = qs
written_records (v ∷ vs) [] = []
written_records (v ∷ vs) (q ∷ qs) = written_record v q ∷ written_records vs qs

-- W1: "Writing back uses the listed spelling, which joins the named changes."
unfoldable pub written_back : Rules → Log → Log
unfolding keywords_of written_arguments claims digits entries totals_of_log written_records verdicts_of_log
written_back R log =
    record {
      keywords = keywords_of entries;
      arguments = written_arguments (claims digits (totals_of_log R log)) entries log.arguments;
      remarks = log.remarks;
      records = written_records (verdicts_of_log R log) log.records;
    }

-- What of a log writing back may not change: the log in the listed spelling, with nothing in the places of the claims and in the fields 11 to 15.
unfoldable pub unclaimed_record : Qso → Qso
unclaimed_record q =
    record {
      date = q.date;
      time = q.time;
      call = q.call;
      mode = q.mode;
      sent_report = q.sent_report;
      sent_number = q.sent_number;
      received_report = q.received_report;
      received_number = q.received_number;
      exchange = q.exchange;
      locator = q.locator;
      points = [];
      new_exchange = [];
      new_square = [];
      new_country = [];
      duplicate = [];
    }

unfoldable pub unclaimed : Log → Log
unfolding keywords_of written_arguments claims zero_totals entries unclaimed_record
unclaimed log =
    record {
      keywords = keywords_of entries;
      arguments = written_arguments (claims (λ n. []) zero_totals) entries log.arguments;
      remarks = log.remarks;
      records = map unclaimed_record log.records;
    }
