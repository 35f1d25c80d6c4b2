-- A line of a log: where it ends, and how many semicolons it has.
-- Assumes nothing.
use Rattle.std.specs.Prelude.{ℕ, ◌+◌, cond, [], ◌∷◌, eqb, length, drop, Option, Some, None}
use Rattle.rules.specs.Text.{Text, semicolon}
use Rattle.rules.specs.Rules.{Rules}
use Rattle.rules.specs.Reading.{FirstLine, a_line, no_line, first_line}

-- The line that starts at a place ends before its CR LF.
unfoldable pub line_from : ℕ → FirstLine → Option ℕ
line_from at (a_line l rest) = Some (at + length l)
line_from at no_line = None

unfoldable pub line_at : Rules → Text → ℕ → Option ℕ
unfolding line_from first_line
line_at R s at = line_from at (first_line R (drop at s))

-- How many semicolons a text has: one less than it has parts.
unfoldable pub semicolons_in : Text → ℕ
semicolons_in [] = 0
semicolons_in (c ∷ s) = cond (eqb c semicolon) 1 0 + semicolons_in s
