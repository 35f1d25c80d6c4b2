-- What is noted of the records while a log is read, and what a lent list of places holds afterwards.
-- Assumes nothing.
use Rattle.std.specs.Prelude.{ℕ, zero, suc, ◌+◌, cond, List, [], ◌∷◌, map, ltb, length, take, Result, Ok, Err}
use Rattle.rules.specs.declared.Fault.{Fault}
use Rattle.rules.specs.declared.Due.{Due}
use Rattle.rules.specs.declared.Due.TheVariants.{Identifier, Keyword, Remarks, Remark, Record, End}
use Rattle.rules.specs.Text.{Text}
use Rattle.rules.specs.Rules.{Rules}
use Rattle.rules.specs.Reading.{lines, step}
use Rattle.rules.specs.Answers.{over}
use Rattle.reader.specs.declared.Contact.{Contact}
use Rattle.reader.specs.Contact.{behind, contact_at}
use Rattle.reader.specs.Record.{record_at}

-- A line that is taken is noted where it is a record.
unfoldable pub noted_line : Due → Contact → List Contact → List Contact
noted_line Identifier c cs = cs
noted_line (Keyword k) c cs = cs
noted_line Remarks c cs = cs
noted_line Remark c cs = cs
noted_line (Record n) c cs = c ∷ cs
noted_line End c cs = cs

-- A line that is refused ends what is noted.
unfoldable pub noted_next : (Due → List Contact) → Due → Contact → Result Due Fault → List Contact
unfolding noted_line
noted_next more due c (Ok next) = noted_line due c (more next)
noted_next more due c (Err e) = []

-- The records among these lines, the first of which begins at a place and is due as said.
unfoldable pub noted_from : Rules → Text → Due → ℕ → List Text → List Contact
unfolding noted_next contact_at step
noted_from R s due at [] = []
noted_from R s due at (l ∷ ls) =
    noted_next (λ next. noted_from R s next (at + length l + 2) ls) due (contact_at R s at) (step R due l)

-- The records that reading comes to: all of an accepted log; of a refused one those in front of the refusal, and none where it is too long.
unfoldable pub contacts_read : Rules → Text → List Contact
unfolding noted_from lines
contacts_read R s =
    let noted = noted_from R s Identifier 0 (lines R s).whole in
    cond (ltb R.longest_log (length s)) [] noted

-- The same of so many records, the first of which is due at a place: those in front of the first that is refused.
unfoldable pub contact_next : (Contact → List Contact) → Result Contact Fault → List Contact
contact_next more (Ok c) = c ∷ more c
contact_next more (Err e) = []

unfoldable pub contacts_from : Rules → Text → ℕ → ℕ → List Contact
unfolding contact_next record_at
contacts_from R s zero at = []
contacts_from R s (suc left) at = contact_next (λ c. contacts_from R s left (behind c)) (record_at R s at)

-- What a lent list holds afterwards: a place of each of these records, as far as the list goes, and behind them what it held.
abbrev pub listed : (Contact → ℕ) → List Contact → List ℕ → List ℕ
listed place cs slice = over (take (length slice) (map place cs)) slice
