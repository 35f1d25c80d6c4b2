-- The parts of a log that are kept by their places, and the search among them.
-- Assumes nothing.
use Rattle.std.specs.Prelude.{ℕ, zero, suc, ◌+◌, ◌-◌, ◌*◌, ◌/◌, ◌%◌, ◌≤◌, ◌<◌, ◌≡◌, Bool, false, cond, ◌&&◌, ◌||◌, List, [], ◌∷◌, eqb, length, take, drop, get_or, Option, None, Some}
use Rattle.rules.specs.Text.{Text, digit, all, same}
use Rattle.rules.specs.Fields.{square_letter}

-- How long a text is and what its last two characters are, in one number: texts that are the same have the same key, and most others differ in
-- it.
unfoldable pub key_of : Text → ℕ
key_of t = length t * 4096 + get_or t (length t - 1) 0 % 64 * 64 + get_or t (length t - 2) 0 % 64

-- The part at a place, of which this is the key.
abbrev pub part_by : Text → ℕ → ℕ → Text
part_by s a key = take (key / 4096) (drop a s)

-- The part that is kept at an index.
abbrev pub kept_at : Text → List ℕ → List ℕ → ℕ → Text
kept_at s places keys i = part_by s (get_or places i 0) (get_or keys i 0)

-- The index of the first part that is the same as a text, of so many from an index on.
unfoldable pub seek : Text → List ℕ → List ℕ → Text → ℕ → ℕ → Option ℕ
unfolding same
seek s places keys t zero i = None
seek s places keys t (suc n) i =
    let more = seek s places keys t n (i + 1) in
    cond (same (kept_at s places keys i) t) (Some i) more

-- The texts of the first so many parts, the last one first.
unfoldable pub kept_texts : Text → List ℕ → List ℕ → ℕ → List Text
kept_texts s places keys zero = []
kept_texts s places keys (suc m) = kept_at s places keys m ∷ kept_texts s places keys m

-- # Squares

-- Two letters A-R and two digits.
unfoldable pub square_there : Text → Bool
unfolding all
square_there t = eqb (length t) 4 && all square_letter (take 2 t) && all digit (drop 2 t)

-- The squares are numbered from 1 to 32,400: 18 letters, 18 letters, ten digits and ten digits.
unfoldable pub number_of_square : Text → ℕ
number_of_square t =
    (((get_or t 0 0 - 65) * 18 + (get_or t 1 0 - 65)) * 10 + (get_or t 2 0 - 48)) * 10 + (get_or t 3 0 - 48) + 1

-- The first so many numbers, the last one first; and whether one is among them.
unfoldable pub kept_numbers : List ℕ → ℕ → List ℕ
kept_numbers list zero = []
kept_numbers list (suc m) = get_or list m 0 ∷ kept_numbers list m

unfoldable pub has_number : List ℕ → ℕ → Bool
has_number [] n = false
has_number (k ∷ ks) n = eqb k n || has_number ks n

-- # What the search asks and promises

-- The key stands somewhere from this index on.
pub record Ahead (keys : List ℕ) (from key : ℕ) : Type 0 where
  pub there : ℕ
  pub behind : from ≤ there
  pub within : there < length keys
  pub stands : get_or keys there 0 ≡ key

-- The first index from one on at which the key stands.
pub record First (keys : List ℕ) (from key r : ℕ) : Type 0 where
  pub behind : from ≤ r
  pub within : r < length keys
  pub stands : get_or keys r 0 ≡ key
  pub none : (j : ℕ) → from ≤ j → j < r → get_or keys j 0 ≡ key → ⊥

-- A part lies within the text and has its own key.
pub record Keyed (s : Text) (a key : ℕ) : Type 0 where
  pub within : a + key / 4096 ≤ length s
  pub own : key ≡ key_of (part_by s a key)

-- The first so many parts are there, and there is a place behind their keys.
pub record Lying (s : Text) (places keys : List ℕ) (m : ℕ) : Type 0 where
  pub many_places : m ≤ length places
  pub many_keys : m < length keys
  pub inside : (k : ℕ) → k < m → Keyed s (get_or places k 0) (get_or keys k 0)
