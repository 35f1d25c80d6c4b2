-- Laws of texts: of runs of characters, of sameness and beginnings, and of the texts between semicolons.
-- Assumes nothing.
use Prim.Native.Nat.{ℕ, zero, suc, ◌≤◌}
use native.Mathlib.Omega.{arith}
use mathlib.Core.Path.{◌≡◌, refl, sym, ap, ◌∙◌}
use mathlib.Core.Logic.{⊎_elim}
use mathlib.Core.Bool.{Bool, true, false, cond, not, ◌&&◌}
use mathlib.Core.List.{List, [], ◌∷◌, ◌++◌}
use lib.Dec.{eqb}
use lib.ListN.{length, take, drop, take-append-drop}
use borrow.Author.Tests.{not-true, eqb-true, eq-eqb}
use Rattle.rules.specs.Text.{Text, semicolon, all, span, same, begins, before, parts, joined}
use Rattle.rules.specs.Arguments.{every}
use Rattle.rules.proofs.Tests.{fails, never, either, and_l, and_r, and_i, not_false}

-- Every character passes a test.
module _ (f : ℕ → Bool) where
  pub all_append : (s t : Text) → all f s ≡ true → all f t ≡ true → all f (s ++ t) ≡ true
  unfolding all
  all_append [] t e g = g
  all_append (c ∷ s) t e g = and_i (and_l (f c) (all f s) e) (all_append s t (and_r (f c) (all f s) e) g)

  pub all_front : (s t : Text) → all f (s ++ t) ≡ true → all f s ≡ true
  unfolding all
  all_front [] t e = refl
  all_front (c ∷ s) t e = and_i (and_l (f c) (all f (s ++ t)) e) (all_front s t (and_r (f c) (all f (s ++ t)) e))

  pub all_back : (s t : Text) → all f (s ++ t) ≡ true → all f t ≡ true
  unfolding all
  all_back [] t e = e
  all_back (c ∷ s) t e = all_back s t (and_r (f c) (all f (s ++ t)) e)

  pub all_split : (s t : Text) → all f (s ++ t) ≡ (all f s && all f t)
  unfolding all
  all_split [] t = refl
  all_split (c ∷ s) t = by (f c) (all_split s t)
    where
      by : (b : Bool) → all f (s ++ t) ≡ (all f s && all f t) → (b && all f (s ++ t)) ≡ (b && all f s && all f t)
      by true e = e
      by false e = refl

  pub all_drop : (n : ℕ) (s : Text) → all f s ≡ true → all f (drop n s) ≡ true
  all_drop n s e = all_back (take n s) (drop n s) (rw (take-append-drop n s) e)

  -- A text keeps a rule of its characters if its front and its back do.
  pub all_halves : (n : ℕ) (s : Text) → all f (take n s) ≡ true → all f (drop n s) ≡ true → all f s ≡ true
  all_halves n s e g = rw (take-append-drop n s) at (all_append (take n s) (drop n s) e g)

pub all_weaker : (f g : ℕ → Bool) → ((c : ℕ) → f c ≡ true → g c ≡ true) → (s : Text) → all f s ≡ true → all g s ≡ true
unfolding all
all_weaker f g h [] e = refl
all_weaker f g h (c ∷ s) e = and_i (h c (and_l (f c) (all f s) e)) (all_weaker f g h s (and_r (f c) (all f s) e))

-- The run at the front: it passes, and what follows it does not.
module _ (f : ℕ → Bool) where
  pub span_short : (s : Text) → span f s ≤ length s
  unfolding span
  span_short [] = omega arith
  span_short (c ∷ s) = by (f c) (span_short s)
    where
      by : (b : Bool) → span f s ≤ length s → cond b (suc (span f s)) 0 ≤ suc (length s)
      by true h = omega arith
      by false h = omega arith

  pub span_all : (s : Text) → all f (take (span f s) s) ≡ true
  unfolding all span
  span_all [] = refl
  span_all (c ∷ s) = ⊎_elim (λ (e : f c ≡ true). rw (e, e) (span_all s)) (λ (e : f c ≡ false). rw e) (either (f c))

  -- So what stands behind such a character does not matter.
  pub span_stops : (l : Text) (c : ℕ) (r : Text) → f c ≡ false → span f (l ++ c ∷ r) ≡ span f l
  unfolding span
  span_stops [] c r e = rw e
  span_stops (d ∷ l) c r e = rw (span_stops l c r e)

  pub span_run : (l : Text) (c : ℕ) (r : Text) → all f l ≡ true → f c ≡ false → span f (l ++ c ∷ r) ≡ length l
  unfolding all span
  span_run [] c r e g = rw g
  span_run (d ∷ l) c r e g = rw (and_l (f d) (all f l) e, span_run l c r (and_r (f d) (all f l) e) g)

-- Sameness is equality.
pub same_refl : (s : Text) → same s s ≡ true
unfolding same
same_refl [] = refl
same_refl (c ∷ s) = and_i (eq-eqb c c refl) (same_refl s)

pub same_eq : (s t : Text) → same s t ≡ true → s ≡ t
unfolding same
same_eq [] [] e = refl
same_eq [] (d ∷ t) e = never e
same_eq (c ∷ s) [] e = never e
same_eq (c ∷ s) (d ∷ t) e =
    let head : c ≡ d = eqb-true c d (and_l (eqb c d) (same s t) e) in
    let tail : s ≡ t = same_eq s t (and_r (eqb c d) (same s t) e) in
    cc

pub same_apart : (s t : Text) → (length s ≡ length t → ⊥) → false ≡ same s t
same_apart s t n = sym (fails (same s t) (λ e. n (ap length (same_eq s t e))))

pub same_of_eq : (s t : Text) → s ≡ t → same s t ≡ true
same_of_eq s t e = rw e (same_refl t)

-- The front of a text by its own length.
pub take_its_length : (n : ℕ) (s : Text) → take (length (take n s)) s ≡ take n s
take_its_length zero s = refl
take_its_length (suc n) [] = refl
take_its_length (suc n) (c ∷ s) = ap (λ (t : Text). c ∷ t) (take_its_length n s)

-- Beginnings.
pub begins_front : (s t : Text) → begins s (s ++ t) ≡ true
unfolding begins
begins_front [] t = refl
begins_front (c ∷ s) t = and_i (eq-eqb c c refl) (begins_front s t)

pub begins_split : (s t : Text) → begins s t ≡ true → t ≡ s ++ drop (length s) t
unfolding begins
begins_split [] t e = refl
begins_split (c ∷ s) [] e = never e
begins_split (c ∷ s) (d ∷ t) e =
    let head : c ≡ d = eqb-true c d (and_l (eqb c d) (begins s t) e) in
    let tail : t ≡ s ++ drop (length s) t = begins_split s t (and_r (eqb c d) (begins s t) e) in
    cc

-- A character that is no semicolon.
abbrev pub plain : ℕ → Bool
plain c = not (eqb c semicolon)

-- The texts between the semicolons are never none.
pub record Some (ts : List Text) : Type 0 where
  pub first : Text
  pub others : List Text
  pub are : ts ≡ first ∷ others

before_some : (c : ℕ) (ts : List Text) → Some (before c ts)
unfolding before
before_some c [] = record { first = c ∷ []; others = []; are = refl }
before_some c (t ∷ ts) = record { first = c ∷ t; others = ts; are = refl }

pub parts_some : (s : Text) → Some (parts s)
unfolding parts
parts_some [] = record { first = []; others = []; are = refl }
parts_some (c ∷ s) = by (eqb c semicolon)
  where
    by : (b : Bool) → Some (cond b ([] ∷ parts s) (before c (parts s)))
    by true = record { first = []; others = parts s; are = refl }
    by false = before_some c (parts s)

-- No semicolon stands between semicolons.
before_plain : (c : ℕ) (ts : List Text) → plain c ≡ true → every (all plain) ts ≡ true → every (all plain) (before c ts) ≡ true
unfolding before every all
before_plain c [] e g = and_i (and_i e refl) refl
before_plain c (t ∷ ts) e g =
    and_i (and_i e (and_l (all plain t) (every (all plain) ts) g)) (and_r (all plain t) (every (all plain) ts) g)

pub parts_plain : (s : Text) → every (all plain) (parts s) ≡ true
unfolding parts every all
parts_plain [] = refl
parts_plain (c ∷ s) = by (parts_plain s) (eqb c semicolon) refl
  where
    by : every (all plain) (parts s) ≡ true → (b : Bool) → eqb c semicolon ≡ b → every (all plain) (cond b ([] ∷ parts s) (before c (parts s))) ≡ true
    by g true e = g
    by g false e = before_plain c (parts s) (not_false e) g

-- A text without semicolons is its only part; a semicolon behind it ends it.
pub parts_one : (t : Text) → all plain t ≡ true → parts t ≡ t ∷ []
unfolding parts before all
parts_one [] e = refl
parts_one (c ∷ t) e =
    rw (not-true (eqb c semicolon) (and_l (plain c) (all plain t) e), parts_one t (and_r (plain c) (all plain t) e))

pub parts_more : (t s : Text) → all plain t ≡ true → parts (t ++ semicolon ∷ s) ≡ t ∷ parts s
unfolding parts before all
parts_more [] s e = refl
parts_more (c ∷ t) s e =
    rw (not-true (eqb c semicolon) (and_l (plain c) (all plain t) e), parts_more t s (and_r (plain c) (all plain t) e))

-- Texts that are joined are the parts again, and the parts of a text join to it.
pub parts_joined : (t : Text) (ts : List Text) → every (all plain) (t ∷ ts) ≡ true → parts (joined (t ∷ ts)) ≡ t ∷ ts
unfolding joined every
parts_joined t [] e = parts_one t (and_l (all plain t) true e)
parts_joined t (u ∷ ts) e =
    parts_more t (joined (u ∷ ts)) (and_l (all plain t) (every (all plain) (u ∷ ts)) e)
    ∙ ap {B = List Text} (λ r. t ∷ r) (parts_joined u ts (and_r (all plain t) (every (all plain) (u ∷ ts)) e))

joined_empty : (ts : List Text) → Some ts → joined ([] ∷ ts) ≡ semicolon ∷ joined ts
unfolding joined
joined_empty ts k = rw k.are

joined_before : (c : ℕ) (ts : List Text) → Some ts → joined (before c ts) ≡ c ∷ joined ts
unfolding before joined
joined_before c ts k = rw k.are (go k.others)
  where
    go : (us : List Text) → joined ((c ∷ k.first) ∷ us) ≡ c ∷ joined (k.first ∷ us)
    go [] = refl
    go (u ∷ us) = refl

pub joined_parts : (s : Text) → joined (parts s) ≡ s
unfolding parts
joined_parts [] = unfold joined in refl
joined_parts (c ∷ s) = by (joined_parts s) (eqb c semicolon) refl
  where
    by : joined (parts s) ≡ s → (b : Bool) → eqb c semicolon ≡ b → joined (cond b ([] ∷ parts s) (before c (parts s))) ≡ c ∷ s
    by g true e = joined_empty (parts s) (parts_some s) ∙ cc (eqb-true c semicolon e)
    by g false e = joined_before c (parts s) (parts_some s) ∙ cc
