-- "That two answers meeting it are equal": which promises leave one answer. Every public function's promise is made of equations, one for its
-- answer and one for each list that it is lent, so that `equations` covers it; a promise that tells its answer in another way needs `tells`.
-- Assumes nothing.
use mathlib.Core.Path.{◌≡◌, sym, ap₂, ◌∙◌}

-- Two that meet the promise are equal.
abbrev pub OneAnswer : {A : Type 0} → (A → Type 0) → Type 0
OneAnswer {A} promise = (answer other : A) → promise answer → promise other → answer ≡ other

-- A promise from which one can tell what the answer is.
pub tells : {A : Type 0} (promise : A → Type 0) (promised : A) →
    ((answer : A) → promise answer → answer ≡ promised) →
    OneAnswer promise
tells promise promised f answer other p q = f answer p ∙ sym (f other q)

-- So an equation.
pub equation : {A : Type 0} (promised : A) → OneAnswer (λ answer. answer ≡ promised)
equation promised = tells (λ answer. answer ≡ promised) promised (λ answer p. p)

-- The answer, and what a lent list holds afterwards; with more lists than one, this again.
pub record Both (A B : Type 0) : Type 0 where
  pub answer : A
  pub lent : B

pub equations : {A B : Type 0} (p : A → Type 0) (q : B → Type 0) →
    OneAnswer p →
    OneAnswer q →
    OneAnswer (λ (x : Both A B). p x.answer × q x.lent)
equations {A} {B} p q f g x y s t =
    ap₂ (λ (a : A) (b : B). record { answer = a; lent = b }) (f x.answer y.answer s.0 t.0) (g x.lent y.lent s.1 t.1)
