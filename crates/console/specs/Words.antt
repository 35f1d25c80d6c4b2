-- The words of the desk's screen. Assumes nothing.
use Rattle.std.specs.Prelude.{ℕ, zero, suc, ◌+◌, ◌-◌, cond, [], ◌++◌, eqb, leb, length, take, drop}
use Rattle.rules.specs.Text.{Text, bytes}

-- The word for each class, by its number, each of nine characters: a column of the table.
unfoldable pub class_word : ℕ → Text
class_word class =
    cond (eqb class 0) (bytes "credited ")
    (cond (eqb class 1) (bytes "void     ")
    (cond (eqb class 2) (bytes "duplicate") (bytes "error    ")))

-- The part of a text from a place up to another; none where it ends before that, or the part before it begins.
abbrev pub part_of : Text → ℕ → ℕ → Text
part_of s from to = cond (leb to (length s)) (take (to - from) (drop from s)) []

-- A piece behind what was laid of a text of so many characters, where there is room for all of it.
abbrev pub laid : ℕ → Text → Text → Text
laid room t piece = cond (leb (length t + length piece) room) (t ++ piece) t

-- So many spaces behind it, one after the other, as far as there is room for them.
abbrev pub spaced : ℕ → ℕ → Text → Text
spaced room zero t = t
spaced room (suc n) t = laid room (spaced room n t) (bytes " ")
