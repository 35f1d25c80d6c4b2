-- The keywords of a log that is written, each put as it is listed. No spelling changes a length, so that every line stays at its place.
-- Assumes nothing.
use Rattle.std.specs.Prelude.{ℕ, ◌+◌, ◌≤◌, cond, List, [], ◌∷◌, eqb, length}
use Rattle.rules.specs.Arguments.{Entry, entries}
use Rattle.rules.specs.Log.{keyword_start}
use Rattle.rules.specs.Text.{Text}
use Rattle.writer.specs.ClaimsText.{line_behind}
use Rattle.writer.specs.Written.{written}

-- The listed keyword of the first of these entries, put on the line that begins at a place; then those of the others on the lines behind it.
unfoldable pub respelled : List Entry → ℕ → Text → Text
unfolding written keyword_start line_behind
respelled [] at s = s
respelled (e ∷ es) at s =
    let put = written s at (keyword_start e.keyword) in
    respelled es (line_behind put (at + 6)) put

-- Where no keyword is respelt, nothing is put. The first stands behind the twelve characters of the identifier, CR and LF.
unfoldable pub relisted : ℕ → Text → Text
unfolding respelled entries
relisted count s = cond (eqb count 0) s (respelled entries 14 s)

-- Each of these lines has room for its keyword and `=`.
unfoldable pub KeywordsLie : List Entry → ℕ → Text → Type 0
unfolding written keyword_start line_behind
KeywordsLie [] at s = Unit {0}
KeywordsLie (e ∷ es) at s =
    (at + 6 ≤ length s)
    × KeywordsLie es (line_behind (written s at (keyword_start e.keyword)) (at + 6)) (written s at (keyword_start e.keyword))
