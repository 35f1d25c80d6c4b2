-- Laws of the fields that are read place by place: each place has its kind of character, and the field ends behind the last, or where it may.
-- Assumes nothing.
use Rattle.std.specs.Prelude.{Some, None}
use Prim.Native.Nat.{ℕ, zero, suc, ◌+◌, ◌≤◌, ◌<◌}
use native.Mathlib.Nat.{not-suc-le-zero, le_of_suc-le-suc}
use native.Mathlib.Omega.{arith}
use mathlib.Core.Bool.{Bool, true, false, not, ◌&&◌, ◌||◌, and-false, true≢false}
use mathlib.Core.List.{[], ◌∷◌}
use mathlib.Core.Path.{◌≡◌, refl, sym, ap, ◌∙◌}
use lib.Dec.{leb, eqb}
use lib.ListN.{length, get_or, get_or-eq_default}
use borrow.Author.Tests.{eq-eqb, eqb-true, lt-leb, leb-true, leb-false, ne_eqb, not-true, not-false}
use Rattle.rules.specs.Fields.{mode, report, serial, locator, square_letter, sub_letter, empty_or}
use Rattle.rules.specs.Text.{Text, digit, capital, span, all, same, empty}
use Rattle.fields.specs.Field.{text_at, ends_at, end_of, end_by, call_by, call_at, call_or_empty_at, locator_at, locator_or_empty_at, mark_at}
use Rattle.fields.proofs.FieldLaws.{next, ends_with_line, ends_at_semicolon}
use Rattle.fields.proofs.Picked.{Kept}

-- The field ends; a character of a kind comes first; the field ends or goes on.
pub data Shape : Type 0 where
  ended : Shape
  one : (ℕ → Bool) → Shape → Shape
  ended_or : Shape → Shape

unfoldable pub fits : Shape → Text → Bool
fits ended t = empty t
fits (one f p) [] = false
fits (one f p) (c ∷ t) = f c && fits p t
fits (ended_or p) t = empty t || fits p t

-- Where the field has ended nothing is left of it; where it has not, one character stands before the rest.
no_text : (t : Text) → empty t ≡ true → t ≡ []
no_text [] e = refl
no_text (c ∷ t) e = absurd (true≢false (sym e))

pub ended_text : (s : Text) (i : ℕ) → ends_at s i ≡ true → text_at s i ≡ []
unfolding ends_at
ended_text s i e = no_text (text_at s i) e

pub ended_here : (s : Text) (i : ℕ) → ends_at s i ≡ true → end_of s i ≡ i
unfolding end_of
ended_here s i e = rw (ended_text s i e) (omega arith)

pub in_line_lem : (s : Text) (i : ℕ) → ends_at s i ≡ false → i < length s
in_line_lem s i e = by (leb (length s) i) refl
  where
    by : (b : Bool) → leb (length s) i ≡ b → i < length s
    by true k = absurd (true≢false (ends_with_line s i (leb-true (length s) i k) ∙ e))
    by false k = leb-false (length s) i k

pub any_default : (s : Text) (i d e : ℕ) → i < length s → get_or s i d ≡ get_or s i e
any_default [] i d e h = absurd (not-suc-le-zero h)
any_default (c ∷ s) zero d e h = refl
any_default (c ∷ s) (suc i) d e h = any_default s i d e (le_of_suc-le-suc h)

pub beyond : (s : Text) (i : ℕ) → length s ≤ i → 59 ≡ get_or s i 59
beyond s i h = sym (get_or-eq_default s 59 h)

module _ (s : Text) (i j d : ℕ) (q : i + 1 ≡ j) (e : ends_at s i ≡ false) where
  pub text_next : text_at s i ≡ get_or s i d ∷ text_at s j
  unfolding text_at span
  text_next =
      let h : i < length s = in_line_lem s i e in
      let k : eqb (get_or s i 0) 59 ≡ false = ends_at_semicolon s i h ∙ e in
      rw (any_default s i d 0 h, next s i h, k, q)

  pub end_next : end_of s i ≡ end_of s j
  unfolding end_of
  end_next = rw text_next (omega arith)

-- A field ends at a semicolon, and the byte beyond the line counts as one.
ends_is : (s : Text) (i : ℕ) → ends_at s i ≡ eqb (get_or s i 59) 59
ends_is s i = by (leb (length s) i) refl
  where
    by : (b : Bool) → leb (length s) i ≡ b → ends_at s i ≡ eqb (get_or s i 59) 59
    by true k =
        let h : length s ≤ i = leb-true (length s) i k in
        sym (ends_with_line s i h) ∙ sym (eq-eqb (get_or s i 59) 59 (get_or-eq_default s 59 h))
    by false k =
        let h : i < length s = leb-false (length s) i k in
        sym (ends_at_semicolon s i h) ∙ ap (λ (b : ℕ). eqb b 59) (any_default s i 0 59 h)

module _ (s : Text) (i : ℕ) {x : ℕ} (k : x ≡ get_or s i 59) where
  at_end_lem : x ≡ 59 → ends_at s i ≡ true
  at_end_lem q = ends_is s i ∙ eq-eqb (get_or s i 59) 59 (sym k ∙ q)

  at_none : (x ≡ 59 → ⊥) → ends_at s i ≡ false
  at_none n = ends_is s i ∙ ne_eqb (get_or s i 59) 59 (λ q. n (k ∙ q))

still : (f : ℕ → Bool) → f 59 ≡ false → (s : Text) (i : ℕ) → f (get_or s i 59) ≡ true → ends_at s i ≡ false
still f apart s i h = by (ends_at s i) refl
  where
    by : (b : Bool) → ends_at s i ≡ b → b ≡ false
    by true e = sym h ∙ ap f (eqb-true (get_or s i 59) 59 (sym (ends_is s i) ∙ e)) ∙ apart
    by false e = refl

-- A rule of the field at a place comes to this shape of the rest of it, further on.
pub record Goes (rule : Text → Bool) (p : Shape) (s : Text) (at i : ℕ) : Type 0 where
  pub rest : rule (text_at s at) ≡ fits p (text_at s i)
  pub ending : end_of s at ≡ end_of s i
  pub within : at < i → i ≤ length s

module _ {rule : Text → Bool} {s : Text} {at i : ℕ} where
  -- Where a character must stand and the field has not ended.
  module _ {f : ℕ → Bool} {p : Shape} (g : Goes rule (one f p) s at i) (e : ends_at s i ≡ false) (d : ℕ) where
    pub other_one : f (get_or s i d) ≡ false → rule (text_at s at) ≡ false
    unfolding fits
    other_one h = g.rest ∙ rw (text_next s i (i + 1) d refl e, h)

    pub next_one : (j : ℕ) → i + 1 ≡ j → f (get_or s i d) ≡ true → Goes rule p s at j
    unfolding fits
    next_one j q h =
        record {
          rest = g.rest ∙ rw (text_next s i j d q e, h);
          ending = g.ending ∙ end_next s i j d q e;
          within = λ k. omega (arith, in_line_lem s i e);
        }

  no_one : {f : ℕ → Bool} {p : Shape} → Goes rule (one f p) s at i → ends_at s i ≡ true → rule (text_at s at) ≡ false
  unfolding fits
  no_one g e = g.rest ∙ rw (ended_text s i e)

  -- Where the field must end, or may: by what a look there says.
  module _ {b : Bool} (l : b ≡ ends_at s i) where
    pub too_long_lem : Goes rule ended s at i → not b ≡ true → rule (text_at s at) ≡ false
    unfolding fits ends_at
    too_long_lem g e = g.rest ∙ sym l ∙ not-true b e

    pub whole : Goes rule ended s at i → not b ≡ false → Kept rule s at i
    unfolding fits ends_at
    whole g e =
        let h : ends_at s i ≡ true = sym l ∙ not-false b e in
        record { holds = g.rest ∙ h; ending = sym (g.ending ∙ ended_here s i h) }

  module _ {x : ℕ} (k : x ≡ get_or s i 59) {p : Shape} (g : Goes rule (ended_or p) s at i) where
    pub may_end : x ≡ 59 → Kept rule s at i
    unfolding fits ends_at
    may_end q =
        let h : ends_at s i ≡ true = at_end_lem s i k q in
        record { holds = g.rest ∙ rw h; ending = sym (g.ending ∙ ended_here s i h) }

    pub may_go_on : (x ≡ 59 → ⊥) → Goes rule p s at i
    unfolding fits ends_at
    may_go_on n =
        let h : ends_at s i ≡ false = at_none s i k n in
        record { rest = g.rest ∙ rw h; ending = g.ending; within = g.within }

pub goes : {rule : Text → Bool} {p : Shape} (s : Text) (at : ℕ) → ((t : Text) → rule t ≡ fits p t) → Goes rule p s at at
goes s at h = record { rest = h (text_at s at); ending = refl; within = λ k. omega arith }

-- A character that is no semicolon, looked at where the line may have ended.
module _ (f : ℕ → Bool) (apart : f 59 ≡ false) {rule : Text → Bool} {p : Shape} {s : Text} {at i : ℕ} (g : Goes rule (one f p) s at i) {x : ℕ} {b : Bool} (k : x ≡ get_or s i 59) (l : b ≡ f x) where
  looked : f (get_or s i 59) ≡ b
  looked = ap f (sym k) ∙ sym l

  pub step : (j : ℕ) → i + 1 ≡ j → not b ≡ false → Goes rule p s at j
  step j q e =
      let h : f (get_or s i 59) ≡ true = looked ∙ not-false b e in
      next_one g (still f apart s i h) 59 j q h

  pub stop : not b ≡ true → rule (text_at s at) ≡ false
  stop e = by (ends_at s i) refl
    where
      by : (d : Bool) → ends_at s i ≡ d → rule (text_at s at) ≡ false
      by true h = no_one g h
      by false h = other_one g h 59 (looked ∙ not-true b e)

-- What is answered where the rule is broken, and where it is kept.
module _ (rule : Text → Bool) (s : Text) (at : ℕ) where
  pub end_none : rule (text_at s at) ≡ false → None ≡ end_by rule s at
  unfolding end_by
  end_none e = rw e

  pub end_some : {i : ℕ} → Kept rule s at i → Some i ≡ end_by rule s at
  unfolding end_by
  end_some k = rw (k.holds, ← k.ending)

-- A mode.
abbrev pub mode_0 : Shape
mode_0 = ended_or (one digit ended)

pub mode_is_lem : (t : Text) → mode t ≡ fits mode_0 t
unfolding mode all fits
mode_is_lem [] = refl
mode_is_lem (a ∷ []) = refl
mode_is_lem (a ∷ b ∷ t) = rw (ne_eqb (length (a ∷ b ∷ t)) 1 (omega arith), and-false (digit a))

-- A report: what may stand behind its two digits, and the whole.
abbrev pub digit_or_capital : ℕ → Bool
digit_or_capital c = digit c || capital c

abbrev pub report_2 : Shape
report_2 = ended_or (one digit_or_capital ended)

abbrev pub report_0 : Shape
report_0 = ended_or (one digit (one digit report_2))

pub report_is : (t : Text) → report t ≡ fits report_0 t
unfolding report all fits
report_is [] = refl
report_is (a ∷ []) = rw (and-false (digit a))
report_is (a ∷ b ∷ []) = by (digit a) (digit b)
  where
    by : (x y : Bool) → (x && (y && true) || false) ≡ (x && (y && true))
    by true true = refl
    by true false = refl
    by false y = refl
report_is (a ∷ b ∷ c ∷ []) = by (digit a) (digit b) (digit_or_capital c)
  where
    by : (x y z : Bool) → (x && (y && true) && (z && true)) ≡ (x && (y && (z && true)))
    by true true z = refl
    by true false z = refl
    by false y z = refl
report_is (a ∷ b ∷ c ∷ d ∷ t) =
    rw (
      ne_eqb (length (a ∷ b ∷ c ∷ d ∷ t)) 2 (omega arith),
      ne_eqb (length (a ∷ b ∷ c ∷ d ∷ t)) 3 (omega arith),
      and-false (digit_or_capital c),
      and-false (digit b),
      and-false (digit a),
    )

-- A serial number: what may stand behind its three digits, and the whole.
abbrev pub serial_3 : Shape
serial_3 = ended_or (one digit ended)

abbrev pub serial_0 : Shape
serial_0 = ended_or (one digit (one digit (one digit serial_3)))

pub serial_is : (t : Text) → serial t ≡ fits serial_0 t
unfolding serial all fits
serial_is [] = refl
serial_is (a ∷ []) = rw (and-false (digit a))
serial_is (a ∷ b ∷ []) = rw (and-false (digit b), and-false (digit a))
serial_is (a ∷ b ∷ c ∷ []) = refl
serial_is (a ∷ b ∷ c ∷ d ∷ []) = refl
serial_is (a ∷ b ∷ c ∷ d ∷ e ∷ t) =
    rw (
      lt-leb (length (a ∷ b ∷ c ∷ d ∷ e ∷ t)) 4 (omega arith),
      and-false (leb 3 (length (a ∷ b ∷ c ∷ d ∷ e ∷ t))),
      and-false (digit d),
      and-false (digit c),
      and-false (digit b),
      and-false (digit a),
    )

-- A call, where there may be none.
pub no_call : (s : Text) (at : ℕ) → ends_at s at ≡ true → Some (record { end = at; error = false }) ≡ call_or_empty_at s at
unfolding call_by empty_or
no_call s at e = rw (ended_here s at e, ended_text s at e)

pub some_call : (s : Text) (at : ℕ) → ends_at s at ≡ false → call_at s at ≡ call_or_empty_at s at
unfolding call_by ends_at empty_or
some_call s at e = rw e

-- A locator: what may stand behind its square, behind the square's letters, and the whole.
abbrev pub locator_4 : Shape
locator_4 = ended_or (one sub_letter (one sub_letter ended))

abbrev pub locator_2 : Shape
locator_2 = one digit (one digit locator_4)

abbrev pub locator_0 : Shape
locator_0 = one square_letter (one square_letter locator_2)

in_a_row : (w x y z u : Bool) → (w && (x && true) && (y && (z && true)) && u) ≡ (w && (x && (y && (z && u))))
in_a_row true true true true u = refl
in_a_row true true true false u = refl
in_a_row true true false z u = refl
in_a_row true false y z u = refl
in_a_row false x y z u = refl

pub locator_is_lem : (t : Text) → locator t ≡ fits locator_0 t
unfolding locator all fits
locator_is_lem [] = refl
locator_is_lem (a ∷ []) = rw (and-false (square_letter a))
locator_is_lem (a ∷ b ∷ []) = rw (and-false (square_letter b), and-false (square_letter a))
locator_is_lem (a ∷ b ∷ c ∷ []) = rw (and-false (digit c), and-false (square_letter b), and-false (square_letter a))
locator_is_lem (a ∷ b ∷ c ∷ d ∷ []) = in_a_row (square_letter a) (square_letter b) (digit c) (digit d) true
locator_is_lem (a ∷ b ∷ c ∷ d ∷ e ∷ []) =
    rw (and-false (sub_letter e), and-false (digit d), and-false (digit c), and-false (square_letter b), and-false (square_letter a))
locator_is_lem (a ∷ b ∷ c ∷ d ∷ e ∷ f ∷ []) =
    in_a_row (square_letter a) (square_letter b) (digit c) (digit d) (sub_letter e && (sub_letter f && true))
locator_is_lem (a ∷ b ∷ c ∷ d ∷ e ∷ f ∷ g ∷ t) =
    rw (
      ne_eqb (length (a ∷ b ∷ c ∷ d ∷ e ∷ f ∷ g ∷ t)) 4 (omega arith),
      ne_eqb (length (a ∷ b ∷ c ∷ d ∷ e ∷ f ∷ g ∷ t)) 6 (omega arith),
      and-false (sub_letter f),
      and-false (sub_letter e),
      and-false (digit d),
      and-false (digit c),
      and-false (square_letter b),
      and-false (square_letter a),
    )

-- A locator, where there may be none.
pub no_locator : (s : Text) (at : ℕ) → ends_at s at ≡ true → Some at ≡ locator_or_empty_at s at
unfolding end_by empty_or
no_locator s at e = rw (ended_here s at e, ended_text s at e)

pub some_locator : (s : Text) (at : ℕ) → ends_at s at ≡ false → locator_at s at ≡ locator_or_empty_at s at
unfolding end_by ends_at empty_or
some_locator s at e = rw e

-- A mark of a letter.
abbrev pub mark_0 : ℕ → Shape
mark_0 letter = ended_or (one (eqb letter) ended)

pub mark_is : (letter : ℕ) (t : Text) → empty_or (same (letter ∷ [])) t ≡ fits (mark_0 letter) t
unfolding empty_or same fits
mark_is letter [] = refl
mark_is letter (a ∷ []) = refl
mark_is letter (a ∷ b ∷ t) = refl

module _ (letter : ℕ) (s : Text) (at : ℕ) where
  pub mark_bad : empty_or (same (letter ∷ [])) (text_at s at) ≡ false → None ≡ mark_at letter s at
  unfolding mark_at
  mark_bad e = rw e

  module _ {x : ℕ} (k : x ≡ get_or s at 59) where
    pub mark_none : x ≡ 59 → Some (record { end = at; set = false }) ≡ mark_at letter s at
    unfolding mark_at empty_or
    mark_none q = rw (ended_here s at (at_end_lem s at k q), ended_text s at (at_end_lem s at k q))

    module _ (n : x ≡ 59 → ⊥) where
      pub mark_set : (i : ℕ) → Kept (empty_or (same (letter ∷ []))) s at i → Some (record { end = i; set = true }) ≡ mark_at letter s at
      unfolding mark_at ends_at
      mark_set i h = rw (h.holds, ← h.ending, at_none s at k n)

      marked : Goes (empty_or (same (letter ∷ []))) (one (eqb letter) ended) s at at
      marked = may_go_on k (goes s at (mark_is letter)) n

      pub mark_other : (x ≡ letter → ⊥) → None ≡ mark_at letter s at
      mark_other m =
          mark_bad (other_one marked (at_none s at k n) 59 (ne_eqb letter (get_or s at 59) (λ q. m (k ∙ sym q))))

      pub mark_here : x ≡ letter → Goes (empty_or (same (letter ∷ []))) ended s at (at + 1)
      mark_here q =
          next_one marked (at_none s at k n) 59 (at + 1) refl (eq-eqb letter (get_or s at 59) (sym q ∙ k))
