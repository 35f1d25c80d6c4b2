-- What is kept serves as well as all the credited records: a record gets the verdict that it gets by them, and after it what is kept serves
-- again. Of squares and exchanges only the new ones are kept, for a text is among all of them exactly when it is among the new ones.
-- Assumes nothing.
use Prim.Native.Nat.{ℕ}
use mathlib.Core.Path.{◌≡◌, refl, sym, ap, ◌∙◌}
use mathlib.Core.Bool.{Bool, true, false, cond, not, ◌&&◌, ◌||◌}
use mathlib.Core.List.{List, [], ◌∷◌}
use lib.Dec.{T}
use lib.ListN.{take}
use borrow.Author.Tests.{not-false}
use Rattle.rules.specs.Text.{Text, same, empty}
use Rattle.rules.specs.Rules.{Rules, base}
use Rattle.rules.specs.Fields.{Qso, error_call, is_error, empty_or, locator}
use Rattle.rules.specs.Arguments.{among}
use Rattle.rules.specs.Judging.{some, worked, class_of, square, is_new}
use Rattle.rules.proofs.Passing.{same→equal}
use Rattle.rules.proofs.Tests.{holds, and_l}
use Rattle.judge.specs.declared.Noted.{Noted}
use Rattle.judge.specs.Said.{class_by}
use Rattle.judge.specs.Parts.{square_there, number_of_square, has_number}
use Rattle.judge.specs.Memory.{Memory, unseen, unseen_square, kept_with, Remembers}
use Rattle.judge.specs.Step.{call_noted, exchange_noted, locator_noted, class_noted, Told}
use Rattle.judge.proofs.SaidLaws.{class_said}
use Rattle.judge.proofs.SquareLaws.{same_number, square_stands}
use Rattle.judge.proofs.ToldLaws.{call_is_lem, exchange_is_lem, locator_is_lem, claims_is, may_repeat_is, locator_ruled}

pub nothing_kept : (R : Rules) → Remembers R (record { calls = []; squares = []; exchanges = [] }) []
unfolding among some has_number
nothing_kept R = record { calls = λ t. refl; squares = λ t n. refl; exchanges = λ t n. refl }

-- By the rules of document 01 the home part of a call is the call: what is kept of it is the call itself.
pub home_base : (t : Text) → base.home t ≡ t
unfolding base
home_base t = refl

-- # What is found serves for what the credited records have there, for texts that keep a rule

abbrev Serves : (Text → Bool) → (Text → Bool) → (Qso → Text) → List Qso → Type 0
Serves rule found of credited = (t : Text) → T (rule t) → found t ≡ some (λ e. same (of e) t) credited

module _ (rule found : Text → Bool) (there : (t : Text) → T (rule t) → T (not (empty t))) (of : Qso → Text) (credited : List Qso) (serves : Serves rule found of credited) (q : Qso) where
  -- Where the record's text was not new, another credited record has it, or it is empty.
  old : (t : Text) → T (not (empty t)) → is_new of credited q ≡ false → T (same (of q) t) → some (λ e. same (of e) t) credited ≡ true
  unfolding is_new
  old t n f h = rw (← same→equal (of q) t h) (by (of q) (rw (same→equal (of q) t h) n) f)
    where
      by : (u : Text) → T (not (empty u)) → (not (empty u) && not (some (λ e. same (of e) u) credited)) ≡ false → some (λ e. same (of e) u) credited ≡ true
      by [] m g = elim m [ ]
      by (d ∷ u) m g = not-false (some (λ e. same (of e) (d ∷ u)) credited) g

  serves_more : (found' : Text → Bool) → ((t : Text) → T (rule t) → found' t ≡ cond (is_new of credited q) (same (of q) t || found t) (found t)) → Serves rule found' of (q ∷ credited)
  unfolding some
  serves_more found' more t r = more t r ∙ by (is_new of credited q) refl
    where
      by : (b : Bool) → is_new of credited q ≡ b → cond b (same (of q) t || found t) (found t) ≡ (same (of q) t || some (λ e. same (of e) t) credited)
      by true e = ap (λ (x : Bool). same (of q) t || x) (serves t r)
      by false e = serves t r ∙ rest (same (of q) t) refl
        where
          rest : (b : Bool) → same (of q) t ≡ b → some (λ e. same (of e) t) credited ≡ (b || some (λ e. same (of e) t) credited)
          rest true f = old t (there t r) e (holds f)
          rest false f = refl

among_with : (b : Bool) (x t : Text) (kept : List Text) → among (kept_with b x kept) t ≡ cond b (same x t || among kept t) (among kept t)
unfolding among
among_with true x t kept = refl
among_with false x t kept = refl

has_with : (b : Bool) (x t : Text) (kept : List ℕ) → (b ≡ true → T (square_there x)) → T (square_there t) →
    has_number (kept_with b (number_of_square x) kept) (number_of_square t) ≡ cond b (same x t || has_number kept (number_of_square t)) (has_number kept (number_of_square t))
unfolding has_number
has_with true x t kept h k = ap (λ (c : Bool). c || has_number kept (number_of_square t)) (same_number x t (h refl) k)
has_with false x t kept h k = refl

-- A square that is there is not empty.
square_there_lem : (t : Text) → T (square_there t) → T (not (empty t))
unfolding square_there
square_there_lem [] h = absurd h
square_there_lem (c ∷ t) h = tt

-- # One record

module _ (R : Rules) (s : Text) (p : Noted) (q : Qso) (told : Told R s p q) (m : Memory) (credited : List Qso) (r : Remembers R m credited) where
  square_is : take 4 (locator_noted s p) ≡ square q
  unfolding square
  square_is = ap (take 4) (locator_is_lem told)

  -- The square of a record that has one.
  square_valid : T (not (empty (square q))) → T (square_there (square q))
  unfolding square
  square_valid n = by q.locator (locator_ruled told) n
    where
      by : (t : Text) → empty_or locator t ≡ true → T (not (empty (take 4 t))) → T (square_there (take 4 t))
      by [] h k = absurd k
      by (c ∷ t) h k = holds (square_stands (c ∷ t) h tt).1

  -- The class, where the call itself is kept.
  pub class_is : ((t : Text) → R.home t ≡ t) → class_noted m.calls s p ≡ class_of R credited q
  unfolding class_noted is_error worked
  class_is home =
      let error : same (call_noted s p) error_call ≡ is_error q = ap (λ (t : Text). same t error_call) (call_is_lem told) in
      let again : among m.calls (call_noted s p) ≡ worked R credited q =
      ap (among m.calls) (call_is_lem told ∙ sym (home q.call)) ∙ r.calls (R.home q.call) in
      (λ i. class_by (error i) (may_repeat_is told i && again i) (claims_is told i)) ∙ class_said R credited q

  -- What is new.
  pub exchange_new : unseen m.exchanges (exchange_noted s p) ≡ is_new (λ e. e.exchange) credited q
  unfolding unseen is_new
  exchange_new = ap (unseen m.exchanges) (exchange_is_lem told) ∙ by q.exchange
    where
      by : (t : Text) → unseen m.exchanges t ≡ (not (empty t) && not (some (λ e. same e.exchange t) credited))
      by [] = refl
      by (d ∷ t) = ap not (r.exchanges (d ∷ t) tt)

  pub square_new : unseen_square m.squares (take 4 (locator_noted s p)) ≡ is_new square credited q
  unfolding is_new unseen_square
  square_new = ap (unseen_square m.squares) square_is ∙ by (square q) square_valid
    where
      by : (t : Text) → (T (not (empty t)) → T (square_there t)) → unseen_square m.squares t ≡ (not (empty t) && not (some (λ e. same (square e) t) credited))
      by [] f = refl
      by (d ∷ t) f = ap not (r.squares (d ∷ t) (f tt))

  is_there : is_new square credited q ≡ true → T (square_there (square q))
  unfolding is_new
  is_there e = square_valid (holds (and_l (not (empty (square q))) (not (some (λ x. same (square x) (square q)) credited)) e))

  -- After a record that is credited, where the call itself is kept.
  pub remembers_credited : ((t : Text) → R.home t ≡ t) → (n : Memory) {x y : Bool} →
      n.calls ≡ call_noted s p ∷ m.calls →
      n.exchanges ≡ kept_with x (exchange_noted s p) m.exchanges →
      n.squares ≡ kept_with y (number_of_square (take 4 (locator_noted s p))) m.squares →
      x ≡ is_new (λ e. e.exchange) credited q →
      y ≡ is_new square credited q →
      Remembers R n (q ∷ credited)
  unfolding among some
  remembers_credited home n {x} {y} ec ex es new old =
      record {
        calls = λ t. ap (λ (ts : List Text). among ts t) ec ∙ (λ i. same ((call_is_lem told ∙ sym (home q.call)) i) t || r.calls t i);
        squares =
            serves_more square_there (λ t. has_number m.squares (number_of_square t)) square_there_lem square credited r.squares q (λ t. has_number n.squares (number_of_square t))
            (λ t h.
            ap (λ (ns : List ℕ). has_number ns (number_of_square t)) (es ∙ (λ i. kept_with (old i) (number_of_square (square_is i)) m.squares))
            ∙ has_with (is_new square credited q) (square q) t m.squares is_there h);
        exchanges =
            serves_more (λ t. not (empty t)) (among m.exchanges) (λ t h. h) (λ e. e.exchange) credited r.exchanges q (among n.exchanges)
            (λ t h.
            ap (λ (ts : List Text). among ts t) (ex ∙ (λ i. kept_with (new i) (exchange_is_lem told i) m.exchanges))
            ∙ among_with (is_new (λ e. e.exchange) credited q) q.exchange t m.exchanges);
      }
