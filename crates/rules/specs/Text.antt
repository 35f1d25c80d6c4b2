-- Texts: what the rules of document 01 are about.
-- Assumes nothing.
use Rattle.std.specs.Prelude.{ℕ, zero, suc, ◌+◌, ◌*◌, ◌-◌, ◌/◌, ◌%◌, Bool, true, false, cond, not, ◌&&◌, ◌||◌, List, [], ◌∷◌, ◌++◌, map, leb, ltb, eqb, length}
use Prim.Native.Char.{code}
use Prim.Native.String.{String, [] as []ˢ, ◌∷◌ as ◌∷ˢ◌}

-- A text is the list of its characters' codes.
abbrev pub Text : Type 0
Text = List ℕ

-- The codes of a text that is written out here.
abbrev pub bytes : String → Text
bytes []ˢ = []
bytes (c ∷ˢ s) = code c ∷ bytes s

-- "each of code 32 to 127"
abbrev pub allowed : ℕ → Bool
allowed c = leb 32 c && leb c 127

-- 0-9, A-Z, a-z
abbrev pub digit : ℕ → Bool
digit c = leb 48 c && leb c 57

abbrev pub capital : ℕ → Bool
capital c = leb 65 c && leb c 90

abbrev pub small : ℕ → Bool
small c = leb 97 c && leb c 122

abbrev pub semicolon : ℕ
semicolon = 59

-- Every character passes the test.
unfoldable pub all : (ℕ → Bool) → Text → Bool
all f [] = true
all f (c ∷ s) = f c && all f s

-- How many characters at the front pass the test.
unfoldable pub span : (ℕ → Bool) → Text → ℕ
span f [] = 0
span f (c ∷ s) =
    let more = suc (span f s) in
    cond (f c) more 0

-- The two texts are the same, byte for byte.
unfoldable pub same : Text → Text → Bool
same [] [] = true
same [] (d ∷ t) = false
same (c ∷ s) [] = false
same (c ∷ s) (d ∷ t) = eqb c d && same s t

-- The small letter of a capital; every other character is its own.
abbrev pub lower : ℕ → ℕ
lower c = cond (capital c) (c + 32) c

-- The two texts are the same but for the case of their letters.
unfoldable pub same_but_case : Text → Text → Bool
unfolding same
same_but_case s t = same (map lower s) (map lower t)

-- The second text begins with the first.
unfoldable pub begins : Text → Text → Bool
begins [] t = true
begins (c ∷ s) [] = false
begins (c ∷ s) (d ∷ t) = eqb c d && begins s t

-- There is no character.
abbrev pub empty : Text → Bool
empty [] = true
empty (c ∷ s) = false

-- The character goes in front of the first of the texts.
unfoldable pub before : ℕ → List Text → List Text
before c [] = (c ∷ []) ∷ []
before c (t ∷ ts) = (c ∷ t) ∷ ts

-- The texts between the semicolons: one more than there are semicolons.
unfoldable pub parts : Text → List Text
unfolding before
parts [] = [] ∷ []
parts (c ∷ s) = cond (eqb c semicolon) ([] ∷ parts s) (before c (parts s))

-- The texts with one semicolon between each two.
unfoldable pub joined : List Text → Text
joined [] = []
joined (t ∷ []) = t
joined (t ∷ u ∷ ts) = t ++ semicolon ∷ joined (u ∷ ts)

-- The number that the digits write, after those that wrote n.
unfoldable pub value_after : ℕ → Text → ℕ
value_after n [] = n
value_after n (c ∷ s) = value_after (10 * n + (c - 48)) s

unfoldable pub value : Text → ℕ
unfolding value_after
value s = value_after 0 s

-- "Numbers have no leading zero except `0` itself."
unfoldable pub number : Text → Bool
unfolding all same begins
number s = not (empty s) && all digit s && (same s (bytes "0") || not (begins (bytes "0") s))

-- A number of at most so many digits; a number from the first to the second.
unfoldable pub number_of : ℕ → Text → Bool
unfolding number
number_of most s = number s && leb (length s) most

unfoldable pub number_from : ℕ → ℕ → Text → Bool
unfolding number value
number_from least most s = number s && leb least (value s) && leb (value s) most

-- The digits that write a number; the first argument bounds how many there are.
unfoldable pub digits_within : ℕ → ℕ → Text
digits_within zero n = (48 + n % 10) ∷ []
digits_within (suc most) n =
    let tens = digits_within most (n / 10) ++ ((48 + n % 10) ∷ []) in
    let one = (48 + n % 10) ∷ [] in
    cond (ltb n 10) one tens

unfoldable pub digits : ℕ → Text
unfolding digits_within
digits n = digits_within n n
