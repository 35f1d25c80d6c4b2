-- The answers of include/sumpquince.h, by the definitions of document 01: the refusal, number 0 where nothing is refused, and behind it the
-- numbers of the answer, each 0 on a refusal.
-- Assumes nothing.
use Rattle.std.specs.Prelude.{ℕ, Bool, cond, length}
use Rattle.rules.specs.declared.Refusal.{Refusal}
use Rattle.rules.specs.declared.Totals.{Totals}
use Rattle.rules.specs.Judging.{mode_numbers}
use Rattle.rules.specs.Rules.{base}
use Rattle.rules.specs.Reading.{Reading}
use Rattle.places.specs.declared.Declared.{Declared}
use Rattle.session.specs.declared.Session.{Session}
use Rattle.session.specs.Session.{totals_now}
use Rattle.link.specs.declared.Closing.{Closing}
use Rattle.rules.specs.Answers.{no_refusal, Viewing, Judgement, refusal_of_reading, records_of_reading, respelt_of_reading, refusal_of_view, start_of_view, viewed, listed_of_view, refusal_of_judgement, totals_of_judgement, Writing, refusal_of_writing, bytes_of_writing}
use Rattle.pad.specs.declared.SumpquinceRefusal.{SumpquinceRefusal}
use Rattle.pad.specs.declared.SumpquinceReading.{SumpquinceReading}
use Rattle.pad.specs.declared.SumpquinceView.{SumpquinceView}
use Rattle.pad.specs.declared.SumpquinceJudgement.{SumpquinceJudgement}
use Rattle.pad.specs.declared.SumpquinceDeclared.{SumpquinceDeclared}
use Rattle.rules.specs.Mending.{Mending, refusal_of_mending, bytes_of_mending, kinds_of_mending}
use Rattle.std.specs.Prelude.{Result, Ok, Err}
use Rattle.pad.specs.declared.SumpquinceWritten.{SumpquinceWritten}
use Rattle.pad.specs.declared.SumpquinceMended.{SumpquinceMended}

unfoldable pub refusal_face : Refusal → SumpquinceRefusal
refusal_face r = record { number = r.number; line = r.line; field = r.field }

unfoldable pub reading_face : Reading → SumpquinceReading
unfolding refusal_face refusal_of_reading records_of_reading respelt_of_reading
reading_face r =
    record { refusal = refusal_face (refusal_of_reading r); records = records_of_reading r; respelt = respelt_of_reading r }

-- C's word for yes and no.
abbrev pub one_if : Bool → ℕ
one_if said = cond said 1 0

unfoldable pub view_face : Viewing → SumpquinceView
unfolding refusal_face refusal_of_view start_of_view viewed listed_of_view
view_face v =
    record {
      refusal = refusal_face (refusal_of_view v);
      start = start_of_view v;
      length = length (viewed v);
      listed = one_if (listed_of_view v);
    }

-- The twelve totals, behind a refusal.
unfoldable pub totals_face : SumpquinceRefusal → Totals → SumpquinceJudgement
unfolding mode_numbers
totals_face refusal t =
    record {
      refusal = refusal;
      credited = t.credited;
      voids = t.voids;
      duplicates = t.duplicates;
      errors = t.errors;
      points = t.points;
      squares = t.squares;
      exchanges = t.exchanges;
      countries = t.countries;
      squarebonus = t.squarebonus;
      exchangebonus = t.exchangebonus;
      countrybonus = t.countrybonus;
      total = t.total;
      modes = mode_numbers t.modes;
    }

unfoldable pub judgement_face : Judgement → SumpquinceJudgement
unfolding totals_face refusal_face refusal_of_judgement totals_of_judgement
judgement_face j = totals_face (refusal_face (refusal_of_judgement j)) (totals_of_judgement j)

unfoldable pub written_face : Writing → SumpquinceWritten
unfolding refusal_face refusal_of_writing bytes_of_writing
written_face w = record { refusal = refusal_face (refusal_of_writing w); length = length (bytes_of_writing w) }

-- The same of the code's word for it.
unfoldable pub wrote_face : Result ℕ Refusal → SumpquinceWritten
unfolding refusal_face no_refusal
wrote_face (Ok n) = record { refusal = refusal_face no_refusal; length = n }
wrote_face (Err r) = record { refusal = refusal_face r; length = 0 }

-- How long the mended log is, and its list.
unfoldable pub mended_face : Mending → SumpquinceMended
unfolding refusal_face refusal_of_mending bytes_of_mending kinds_of_mending
mended_face m =
    record {
      refusal = refusal_face (refusal_of_mending m);
      length = length (bytes_of_mending m);
      changes = length (kinds_of_mending m);
    }

-- # The session

unfoldable pub declared_face : SumpquinceDeclared → Declared
declared_face d =
    record {
      squarebonus = d.squarebonus;
      squaremultiplier = d.squaremultiplier;
      exchangebonus = d.exchangebonus;
      exchangemultiplier = d.exchangemultiplier;
      countrybonus = d.countrybonus;
      countrymultiplier = d.countrymultiplier;
    }

-- The totals of the records now present; nothing is refused.
unfoldable pub session_face : Session → SumpquinceJudgement
unfolding totals_face refusal_face no_refusal totals_now
session_face s = totals_face (refusal_face no_refusal) (totals_now base s)

-- # The packet link

-- The totals, or zeros behind a refusal.
unfoldable pub closing_face : Closing → SumpquinceJudgement
unfolding totals_face refusal_face
closing_face c = totals_face (refusal_face c.refusal) c.totals
