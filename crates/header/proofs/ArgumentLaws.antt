-- The rule of each keyword's argument, by the table.
-- Assumes nothing.
use Prim.Native.Nat.{ℕ, zero, suc, ◌+◌, ◌≤◌, ◌<◌}
use native.Mathlib.Decide.{ℕ_discrete}
use native.Mathlib.Omega.{arith}
use mathlib.Core.Bool.{Bool, true, false, ◌&&◌, ◌||◌, true≢false}
use mathlib.Core.List.{List, [], ◌∷◌, ◌++◌, map, head-eq_of_cons-eq, tail-eq_of_cons-eq}
use mathlib.Core.Logic.{◌⊎◌, inl, inr}
use mathlib.Core.Path.{◌≡◌, sym, ap, ◌∙◌}
use types.Run.{OneOf}
use lib.Dec.{eqb}
use lib.ListN.{drop_of_length-le}
use borrow.Author.Tests.{ne_eqb}
use Rattle.rules.specs.Arguments.{Rule, meets, entries}
use Rattle.rules.specs.Rules.{Rules}
use Rattle.rules.specs.Text.{Text}
use Rattle.rules.proofs.Tests.{and_l, and_r}
use Rattle.header.specs.Header.{first_argument, argument_of}

-- The number is one of these.
abbrev has : List ℕ → ℕ → Bool
has [] x = false
has (p ∷ ps) x = eqb x p || has ps x

-- Every number from the first on, so many of them, is one of these.
abbrev covers : List ℕ → ℕ → ℕ → Bool
covers ps first zero = true
covers ps first (suc n) = has ps first && covers ps (suc first) n

covered : (ps : List ℕ) (first n x : ℕ) → covers ps first n ≡ true → first ≤ x → x < first + n → has ps x ≡ true
covered ps first zero x e h l = absurd (omega arith)
covered ps first (suc n) x e h l =
    by (ℕ_discrete x first)
    (λ m. covered ps (suc first) n x (and_r (has ps first) (covers ps (suc first) n) e) (omega arith) (omega arith))
  where
    by : Dec (x ≡ first) → ((x ≡ first → ⊥) → has ps x ≡ true) → has ps x ≡ true
    by (yes q) k = ap (has ps) q ∙ and_l (has ps first) (covers ps (suc first) n) e
    by (no m) k = k m

found : (p : ℕ) (ps : List ℕ) (x : ℕ) → has (p ∷ ps) x ≡ true → OneOf (p ∷ ps) x
found p [] x e = by (ℕ_discrete x p)
  where
    by : Dec (x ≡ p) → x ≡ p
    by (yes q) = q
    by (no n) = absurd (true≢false (sym e ∙ rw (ne_eqb x p n)))
found p (q ∷ ps) x e = by (ℕ_discrete x p) (λ n. found q ps x (rw (ne_eqb x p n) at e))
  where
    by : Dec (x ≡ p) → ((x ≡ p → ⊥) → OneOf (q ∷ ps) x) → (x ≡ p) ⊎ OneOf (q ∷ ps) x
    by (yes e) k = inl e
    by (no n) k = inr (k n)

skip : (ps qs : List ℕ) (x : ℕ) → (OneOf ps x → ⊥) → has (ps ++ qs) x ≡ true → has qs x ≡ true
skip [] qs x n e = e
skip (p ∷ []) qs x n e = rw (ne_eqb x p n) at e
skip (p ∷ q ∷ ps) qs x n e = skip (q ∷ ps) qs x (λ o. n (inr o)) (rw (ne_eqb x p (λ o. n (inl o))) at e)

-- What is known where no arm of a `match` was taken; the last arm comes first.
abbrev pub Passed : List (List ℕ) → ℕ → Type 0
Passed [] x = Unit {0}
Passed (ps ∷ arms) x = Passed arms x × (OneOf ps x → ⊥)

abbrev with_arms : List (List ℕ) → List ℕ → List ℕ
with_arms [] qs = qs
with_arms (ps ∷ arms) qs = ps ++ with_arms arms qs

unpassed : (arms : List (List ℕ)) (qs : List ℕ) (x : ℕ) → Passed arms x → has (with_arms arms qs) x ≡ true → has qs x ≡ true
unpassed [] qs x a e = e
unpassed (ps ∷ arms) qs x a e = unpassed arms qs x a.0 (skip ps (with_arms arms qs) x a.1 e)

-- A number in a range that the arms and these cover is one of these.
pub one_of : (arms : List (List ℕ)) (p : ℕ) (ps : List ℕ) (first n x : ℕ)
    → covers (with_arms arms (p ∷ ps)) first n ≡ true → first ≤ x → x < first + n → Passed arms x → OneOf (p ∷ ps) x
one_of arms p ps first n x e h l a =
    found p ps x (unpassed arms (p ∷ ps) x a (covered (with_arms arms (p ∷ ps)) first n x e h l))

module _ (R : Rules) (rule : Rule) (t : Text) where
  -- At each of these places of the table stands the rule.
  abbrev pub Ruled : List ℕ → Type 0
  Ruled ps = map (λ (n : ℕ). meets R rule t) ps ≡ map (λ (n : ℕ). argument_of R n t) ps

  ruled : (p : ℕ) (ps : List ℕ) (k : ℕ) → Ruled (p ∷ ps) → OneOf (p ∷ ps) k → meets R rule t ≡ argument_of R k t
  ruled p [] k h e = head-eq_of_cons-eq h ∙ ap (λ (n : ℕ). argument_of R n t) (sym e)
  ruled p (q ∷ ps) k h (inl e) = head-eq_of_cons-eq h ∙ ap (λ (n : ℕ). argument_of R n t) (sym e)
  ruled p (q ∷ ps) k h (inr o) = ruled q ps k (tail-eq_of_cons-eq h) o

  pub answered : (p : ℕ) (ps : List ℕ) (k : ℕ) {b : Bool} → Ruled (p ∷ ps) → OneOf (p ∷ ps) k → b ≡ meets R rule t → b ≡ argument_of R k t
  answered p ps k h o q = q ∙ ruled p ps k h o

pub beyond_table : (R : Rules) (k : ℕ) (t : Text) → 36 ≤ k → false ≡ argument_of R k t
unfolding argument_of entries first_argument
beyond_table R k t h = rw (drop_of_length-le entries {i = k} h)
