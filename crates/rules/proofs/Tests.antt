-- Laws of tests: what follows from a test that holds, and which of two answers a test gave. Of tests on numbers borrow.Author.Tests tells.
-- Assumes nothing.
use mathlib.Core.Path.{◌≡◌, refl}
use mathlib.Core.Bool.{Bool, true, false, cond, not, ◌&&◌, ◌||◌, true≢false, false≢true}
use mathlib.Core.Logic.{◌⊎◌, inl, inr}
use lib.Dec.{T}
pub use borrow.Author.Tests.{not-true, eqb-true as eq-of-test}

-- A test that holds, as a type and as an equation.
pub so : (b : Bool) → T b → b ≡ true
so true t = refl
so false t = absurd t

pub holds : {b : Bool} → b ≡ true → T b
holds e = rw e tt

-- A test holds or fails.
pub either : (b : Bool) → (b ≡ true) ⊎ (b ≡ false)
either true = inl refl
either false = inr refl

pub fails : (b : Bool) → (b ≡ true → ⊥) → b ≡ false
fails true f = absurd (f refl)
fails false f = refl

pub clash : {b : Bool} {A : Type 0} → b ≡ true → b ≡ false → A
clash e f = absurd (true≢false (rw e at f))

pub never : {A : Type 0} → false ≡ true → A
never e = absurd (false≢true e)

-- Of two tests.
pub and_l : (a b : Bool) → (a && b) ≡ true → a ≡ true
and_l true b e = refl
and_l false b e = e

pub and_r : (a b : Bool) → (a && b) ≡ true → b ≡ true
and_r true b e = e
and_r false b e = absurd (false≢true e)

pub and_i : {a b : Bool} → a ≡ true → b ≡ true → (a && b) ≡ true
and_i e f = rw (e, f)

pub or_cases : (a b : Bool) → (a || b) ≡ true → (a ≡ true) ⊎ (b ≡ true)
or_cases true b e = inl refl
or_cases false b e = inr e

pub or_l : {a : Bool} (b : Bool) → a ≡ true → (a || b) ≡ true
or_l b e = rw e

pub or_r : (a : Bool) {b : Bool} → b ≡ true → (a || b) ≡ true
or_r true e = refl
or_r false e = e

pub not_false : {b : Bool} → b ≡ false → not b ≡ true
not_false e = rw e

-- One of two answers that differ: which it was, and so what the test said.
pub picked : {A : Type 0} (b : Bool) {x y z : A} → cond b x z ≡ y → (z ≡ y → ⊥) → (b ≡ true) × (x ≡ y)
picked true e n = (refl, e)
picked false e n = absurd (n e)

pub passed : {A : Type 0} (b : Bool) {x y z : A} → cond b x z ≡ y → (x ≡ y → ⊥) → (b ≡ false) × (z ≡ y)
passed true e n = absurd (n e)
passed false e n = (refl, e)

-- One fact in front of others, so that many are written as a list of them.
infixr 20 ◌beside◌
pub ◌beside◌ : {A B : Type 0} → A → B → A × B
a beside b = (a, b)
