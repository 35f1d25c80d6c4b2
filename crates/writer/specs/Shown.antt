-- The lines of the modes, as they are laid one behind the other.
-- Assumes nothing.
use Rattle.std.specs.Prelude.{ℕ, List, ◌∷◌, ◌++◌, get_or}
use Rattle.rules.specs.Text.{Text, bytes, digits}
use Rattle.writer.specs.Written.{texts}

-- W4: "codes 0 to 9 and then blank, as `MODE 0 n` and `MODE - n`".
unfoldable pub mode_marks : Text
mode_marks = bytes "0123456789-"

unfoldable pub mode_line : ℕ → ℕ → Text
unfolding digits
mode_line mark n = bytes "MODE " ++ (mark ∷ bytes " ") ++ digits n ++ bytes "\n"

-- The line at a place among the eleven, of which these are the numbers.
unfoldable pub mode_line_at : List ℕ → ℕ → Text
unfolding mode_marks mode_line
mode_line_at modes i = mode_line (get_or mode_marks i 0) (get_or modes i 0)

unfoldable pub mode_lines : List ℕ → Text
unfolding texts mode_line_at
mode_lines modes = texts (mode_line_at modes) 11
