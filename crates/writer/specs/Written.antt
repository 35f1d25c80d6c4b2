-- Texts put together one behind the other, and laid over what a lent slice holds.
-- Assumes nothing.
use Rattle.std.specs.Prelude.{ℕ, zero, suc, ◌+◌, ◌≤◌, Bool, List, [], ◌∷◌, ◌++◌, ◌≡◌, leb, length, take, drop, get_or}
use Rattle.rules.specs.Text.{Text}

-- The first so many of these texts, one behind the other.
unfoldable pub texts : (ℕ → Text) → ℕ → Text
texts f zero = []
texts f (suc n) = texts f n ++ f n

-- The first so many of these numbers, in a row.
abbrev pub row : (ℕ → ℕ) → ℕ → List ℕ
row f n = texts (λ i. f i ∷ []) n

-- Where the part behind so many parts begins: the first begins at a place, and each other so many characters behind the end of the one before it.
unfoldable pub start_of : ℕ → ℕ → List ℕ → ℕ → ℕ
start_of gap first ends zero = first
start_of gap first ends (suc i) = get_or ends i 0 + gap

-- The list with the text laid over it from a place on; all else of it stays.
unfoldable pub written : List ℕ → ℕ → Text → List ℕ
written d at t = take at d ++ t ++ drop (at + length t) d

-- The list has room for a text from a place on.
abbrev pub has_room : List ℕ → ℕ → Text → Bool
has_room d at t = leb (at + length t) (length d)

-- A text that fits was laid over the list from a place on: what the list is now, and the place behind the text.
pub record Puts (d : List ℕ) (at : ℕ) (t : Text) (e : List ℕ) (r : ℕ) : Type 0 where
  pub fits : at + length t ≤ length d
  pub list : e ≡ written d at t
  pub place : r ≡ at + length t
