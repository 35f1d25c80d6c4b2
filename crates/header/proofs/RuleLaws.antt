-- No rule of one argument lets a semicolon through, so that a text that keeps it is one part.
-- Assumes nothing.
use Prim.Native.Nat.{ℕ}
use Rattle.std.specs.Prelude.{Option, Some, None}
use Rattle.std.specs.Option.{option_eq}
use mathlib.Core.Bool.{Bool, true, false, not, ◌&&◌, true≢false}
use mathlib.Core.List.{[], ◌∷◌}
use mathlib.Core.Path.{◌≡◌, refl, sym, ap, ◌∙◌}
use lib.Dec.{leb, eqb}
use lib.ListN.{length}
use borrow.Author.Tests.{eqb-true, not-true}
use Rattle.rules.specs.Fields.{call, call_character, exchange, exchange_character, locator, empty_or}
use Rattle.rules.specs.Rules.{Rules}
use Rattle.rules.specs.Text.{Text, digit, all, number, number_of}
use Rattle.rules.proofs.NumberLaws.{number_digits}
use Rattle.rules.proofs.Tests.{and_l, and_r, and_i}
use Rattle.fields.specs.Field.{in_field, end_by}
use Rattle.fields.proofs.Picked.{Kept, end_picked, end_refused}
use Rattle.fields.proofs.ShapeLaws.{Shape, ended, one, ended_or, fits, locator_0, locator_is_lem}
use Rattle.figures.specs.Figure.{number_at}
use Rattle.figures.proofs.Picked.{number_picked, number_refused}
use Rattle.header.proofs.DueLaws.{argument_broken, argument_ends}

-- A kind of characters that the semicolon is not of.
kind_apart : (f : ℕ → Bool) → f 59 ≡ false → (c : ℕ) → f c ≡ true → in_field c ≡ true
kind_apart f apart c e = by (eqb c 59) refl
  where
    by : (b : Bool) → eqb c 59 ≡ b → not b ≡ true
    by true k = absurd (true≢false (sym e ∙ ap f (eqb-true c 59 k) ∙ apart))
    by false k = refl

pub all_apart : (f : ℕ → Bool) → f 59 ≡ false → (t : Text) → all f t ≡ true → all in_field t ≡ true
unfolding all
all_apart f apart [] e = refl
all_apart f apart (c ∷ t) e =
    and_i (kind_apart f apart c (and_l (f c) (all f t) e)) (all_apart f apart t (and_r (f c) (all f t) e))

-- A shape with such kinds alone.
abbrev apart_from_lem : Shape → Bool
apart_from_lem ended = true
apart_from_lem (one f p) = not (f 59) && apart_from_lem p
apart_from_lem (ended_or p) = apart_from_lem p

shape_apart : (p : Shape) → apart_from_lem p ≡ true → (t : Text) → fits p t ≡ true → all in_field t ≡ true
unfolding all fits
shape_apart p h [] e = refl
shape_apart ended h (c ∷ t) e = absurd (true≢false (sym e))
shape_apart (one f p) h (c ∷ t) e =
    and_i
    (kind_apart f (not-true (f 59) (and_l (not (f 59)) (apart_from_lem p) h)) c (and_l (f c) (fits p t) e))
    (shape_apart p (and_r (not (f 59)) (apart_from_lem p) h) t (and_r (f c) (fits p t) e))
shape_apart (ended_or p) h (c ∷ t) e = shape_apart p h (c ∷ t) e

pub call_apart : (t : Text) → call t ≡ true → all in_field t ≡ true
unfolding call
call_apart t e = all_apart call_character refl t (and_r (leb 3 (length t) && leb (length t) 14) (all call_character t) e)

pub exchange_apart : (R : Rules) (t : Text) → exchange R t ≡ true → all in_field t ≡ true
unfolding exchange
exchange_apart R t e =
    all_apart exchange_character refl t (and_r (leb (length t) R.longest_exchange) (all exchange_character t) e)

pub locator_apart : (t : Text) → locator t ≡ true → all in_field t ≡ true
locator_apart t e = shape_apart locator_0 refl t (sym (locator_is_lem t) ∙ e)

pub empty_or_apart : (rule : Text → Bool) → ((t : Text) → rule t ≡ true → all in_field t ≡ true) → (t : Text) → empty_or rule t ≡ true → all in_field t ≡ true
unfolding empty_or all
empty_or_apart rule apart [] e = refl
empty_or_apart rule apart (c ∷ t) e = apart (c ∷ t) e

pub number_apart : (most : ℕ) (t : Text) → number_of most t ≡ true → all in_field t ≡ true
unfolding number_of
number_apart most t e =
    all_apart digit refl t (number_digits t (and_l (number t) (leb (length t) most) e))

-- A whole argument of a rule that lets no semicolon through: its reader's end is that of the text.
module _ (rule : Text → Bool) (apart : (t : Text) → rule t ≡ true → all in_field t ≡ true) (t : Text) where
  pub text_whole : (r : Option ℕ) → end_by rule t 0 ≡ r → option_eq eqb r (Some (length t)) ≡ rule t
  text_whole None p = argument_broken rule apart t (end_refused rule t 0 p)
  text_whole (Some e) p = argument_ends rule apart t (end_picked rule t 0 p)

-- What is told of a number, as of a text.
pub number_kept : (rule : Text → Bool) (t : Text) (at : ℕ) {v e : ℕ} → number_at rule t at ≡ Some (v, e) → Kept rule t at e
number_kept rule t at p =
    let q = number_picked rule t at p in
    record { holds = q.0; ending = q.2 }

-- A whole argument that is a number of at most so many digits.
module _ (most : ℕ) (t : Text) where
  pub no_number : number_at (number_of most) t 0 ≡ None → false ≡ number_of most t
  no_number p = argument_broken (number_of most) (number_apart most) t (number_refused (number_of most) t 0 p)

  pub whole_number : {v e : ℕ} → number_at (number_of most) t 0 ≡ Some (v, e) → eqb e (length t) ≡ number_of most t
  whole_number p = argument_ends (number_of most) (number_apart most) t (number_kept (number_of most) t 0 p)
