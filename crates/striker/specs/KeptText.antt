-- The text that is left of a log once records are struck, by where the records lie in it.
-- Assumes nothing.
use Rattle.std.specs.Prelude.{ℕ, ◌+◌, Bool, cond, not, List, [], ◌++◌, eqb, length, take, get_or}
use Rattle.reader.specs.Contact.{between}
use Rattle.rules.specs.Log.{crlf}
use Rattle.rules.specs.Striking.{Places}
use Rattle.rules.specs.Text.{Text}
use Rattle.writer.specs.Written.{texts, start_of}

-- A byte strikes its record, if it is not 0.
abbrev pub is_struck : ℕ → Bool
is_struck mark = not (eqb mark 0)

-- The line of a record from a place to another, with its CR LF; nothing where it is struck.
abbrev pub kept_line : Text → ℕ → ℕ → Bool → Text
kept_line s start next struck = cond struck [] (between s start next)

-- The record behind so many: CR LF stand behind the end of each.
abbrev pub numbered_line : Text → ℕ → List ℕ → Places → ℕ → Text
numbered_line s first ends struck i = kept_line s (start_of 2 first ends i) (get_or ends i 0 + 2) (struck i)

-- The records that are left, one behind the other, of those that begin at a place and end as told.
unfoldable pub kept_lines : Text → ℕ → List ℕ → Places → Text
unfolding texts start_of
kept_lines s first ends struck = texts (numbered_line s first ends struck) (length ends)

-- The text in front of a place, and a line behind it.
unfoldable pub head_text : Text → ℕ → Text → Text
unfolding crlf
head_text s front line = (take front s ++ line) ++ crlf
