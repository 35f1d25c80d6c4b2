-- Where the lines of a log lie, and what is told of those of its keywords. Each definition gives an answer for every text.
-- Assumes nothing.
use Rattle.std.specs.Prelude.{ℕ, zero, suc, ◌+◌, ◌-◌, length, take, drop, Result, Ok, Err}
use Rattle.rules.specs.declared.Refusal.{Refusal}
use Rattle.rules.specs.Text.{Text, allowed, begins, span}
use Rattle.rules.specs.Rules.{Rules}
use Rattle.rules.specs.Arguments.{bonus, multiplier, part}
use Rattle.rules.specs.Answers.{Viewing, seen, unseen, view}
use Rattle.header.specs.Header.{listed_at}
use Rattle.reader.specs.Contact.{value_by}
use Rattle.places.specs.declared.Declared.{Declared}
use Rattle.places.specs.declared.Seen.{Seen}

-- The allowed characters from a place on: in an accepted log, the line that begins there.
unfoldable pub line_text_at : Text → ℕ → Text
unfolding span
line_text_at s at = take (span allowed (drop at s)) (drop at s)

-- Where the line behind so many lines begins, from the first one's place on: two characters, CR LF, stand behind each.
unfoldable pub line_on : Text → ℕ → ℕ → ℕ
unfolding span
line_on s at zero = at
line_on s at (suc i) = line_on s at i + span allowed (drop (line_on s at i) s) + 2

-- The same from the front of the text on.
abbrev pub line_start : Text → ℕ → ℕ
line_start s i = line_on s 0 i

-- The argument on the line behind so many lines, from a place on or from the front on: what stands behind the six characters of its keyword
-- and `=`.
unfoldable pub argument_on : Text → ℕ → ℕ → Text
unfolding line_text_at line_on
argument_on s at i = drop 6 (line_text_at s (line_on s at i))

abbrev pub argument_at : Text → ℕ → Text
argument_at s i = argument_on s 0 i

-- The bonuses and multipliers of CWWLs, CExcs and CDXCs, by the place where the claims begin: keywords 29, 31 and 33, of which the first claim,
-- CQSOs, is keyword 27.
unfoldable pub declared_at : Rules → Text → ℕ → Declared
unfolding argument_on part value_by bonus multiplier
declared_at R s claims =
    record {
      squarebonus = value_by (bonus R) (part 1 (argument_on s claims 2));
      squaremultiplier = value_by (multiplier R) (part 2 (argument_on s claims 2));
      exchangebonus = value_by (bonus R) (part 1 (argument_on s claims 4));
      exchangemultiplier = value_by (multiplier R) (part 2 (argument_on s claims 4));
      countrybonus = value_by (bonus R) (part 1 (argument_on s claims 6));
      countrymultiplier = value_by (multiplier R) (part 2 (argument_on s claims 6));
    }

-- # Views

-- The part behind the six characters of the k-th keyword and its `=`, on the line that begins at a place, and how the keyword is spelt there.
unfoldable pub part_seen : ℕ → Text → ℕ → Seen
unfolding line_text_at begins listed_at
part_seen k s at =
    record {
      start = at + 6;
      length = length (drop 6 (line_text_at s at));
      listed = begins (listed_at (k - 1)) (line_text_at s at);
    }

-- The code's word for each case of a view.
unfoldable pub view_told : Viewing → Result Seen Refusal
view_told (seen start t listed) = Ok (record { start = start; length = length t; listed = listed })
view_told (unseen r) = Err r

unfoldable pub view_of : Rules → ℕ → Text → Result Seen Refusal
unfolding view_told view
view_of R k s = view_told (view R k s)
