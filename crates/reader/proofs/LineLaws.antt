-- Laws of a line: it stands at a place exactly where a short run of allowed characters is followed by CR LF.
-- Assumes nothing.
use Prim.Native.Nat.{ℕ, ◌+◌, ◌-◌, ◌≤◌, ◌<◌}
use native.Mathlib.Decide.{dec_le}
use native.Mathlib.Omega.{arith}
use mathlib.Core.Path.{◌≡◌, refl, sym, ap, ap₂, subst, ◌∙◌}
use mathlib.Core.Bool.{Bool, true, false, cond, not, ◌&&◌, and-false, true≢false}
use mathlib.Core.List.{[], ◌∷◌}
use lib.Dec.{leb, eqb}
use lib.ListN.{length, take, drop, get_or, get_or-eq_default}
use lib.Seq.{get_or-drop, length-take-le, drop-drop}
use borrow.Author.Tests.{eq-eqb, eqb-false, eqb-true, le-leb, lt-leb, ne_eqb}
use Rattle.rules.specs.Text.{Text, allowed, span, begins}
use Rattle.rules.specs.Rules.{Rules}
use Rattle.rules.specs.Log.{crlf}
use Rattle.rules.specs.Reading.{FirstLine, a_line, no_line, first_line}
use Rattle.rules.proofs.Tests.{and_r}
use Rattle.rules.proofs.TextLaws.{span_short}
use Rattle.fields.proofs.FieldLaws.{Within, run_more}
use Rattle.std.specs.Prelude.{Some, None}
use Rattle.reader.specs.Line.{line_from, line_at}

-- Two characters decide whether CR LF stands at the front.
begins_crlf : (t : Text) → begins crlf t ≡ (eqb 13 (get_or t 0 0) && eqb 10 (get_or t 1 0))
unfolding begins crlf
begins_crlf [] = refl
begins_crlf (c ∷ []) = refl
begins_crlf (c ∷ d ∷ t) = ap (λ (b : Bool). eqb 13 c && b) (sym (with_true (eqb 10 d)))
  where
    with_true : (b : Bool) → b ≡ (b && true)
    with_true true = refl
    with_true false = refl

zero_is_not : (n : ℕ) → 0 ≡ n → 0 < n → ⊥
zero_is_not n e h = omega arith

module _ (s : Text) (at : ℕ) where
  -- The same of a place.
  ends_by_place : begins crlf (drop at s) ≡ (eqb 13 (get_or s at 0) && eqb 10 (get_or s (at + 1) 0))
  ends_by_place =
      begins_crlf (drop at s)
      ∙ ap₂ (λ (c d : ℕ). eqb 13 c && eqb 10 d) (get_or-drop at s 0 0 ∙ ap (λ (i : ℕ). get_or s i 0) (omega arith)) (get_or-drop at s 1 0)

  pub ends_no_cr : (get_or s at 0 ≡ 13 → ⊥) → false ≡ begins crlf (drop at s)
  ends_no_cr h = sym (ends_by_place ∙ rw (ne_eqb 13 (get_or s at 0) (λ k. h (sym k))))

  pub ends_no_lf : (get_or s (at + 1) 0 ≡ 10 → ⊥) → false ≡ begins crlf (drop at s)
  ends_no_lf h =
      sym (ends_by_place ∙ rw (ne_eqb 10 (get_or s (at + 1) 0) (λ k. h (sym k))) (and-false (eqb 13 (get_or s at 0))))

  pub ends_behind : length s ≤ at → false ≡ begins crlf (drop at s)
  ends_behind h = ends_no_cr (λ k. zero_is_not 13 (sym (get_or-eq_default s 0 h) ∙ k) (omega arith))

  pub ends_between : length s ≤ at + 1 → false ≡ begins crlf (drop at s)
  ends_between h = ends_no_lf (λ k. zero_is_not 10 (sym (get_or-eq_default s 0 h) ∙ k) (omega arith))

  pub ends_by_lf : get_or s at 0 ≡ 13 → eqb (get_or s (at + 1) 0) 10 ≡ begins crlf (drop at s)
  ends_by_lf h = turned (get_or s (at + 1) 0) ∙ sym (ends_by_place ∙ rw (eq-eqb 13 (get_or s at 0) (sym h)))
    where
      turned : (n : ℕ) → eqb n 10 ≡ eqb 10 n
      turned n = by (eqb n 10) refl
        where
          by : (b : Bool) → eqb n 10 ≡ b → b ≡ eqb 10 n
          by true e = sym (eq-eqb 10 n (sym (eqb-true n 10 e)))
          by false e = sym (ne_eqb 10 n (λ k. eqb-false n 10 e (sym k)))

pub ends_within : (s : Text) (at : ℕ) → begins crlf (drop at s) ≡ true → at + 2 ≤ length s
ends_within s at e = by (dec_le (at + 2) (length s))
  where
    by : Dec (at + 2 ≤ length s) → at + 2 ≤ length s
    by (yes h) = h
    by (no h) = absurd (true≢false (sym e ∙ sym (ends_between s at (omega arith))))

-- The run of allowed characters from a place ends here.
module _ (R : Rules) (s : Text) (at end : ℕ) (e : end ≡ at + span allowed (drop at s)) where
  behind_run : drop (span allowed (drop at s)) (drop at s) ≡ drop end s
  behind_run = drop-drop (span allowed (drop at s)) at s ∙ ap (λ (k : ℕ). drop k s) (sym e)

  front_length : length (take (span allowed (drop at s)) (drop at s)) ≡ span allowed (drop at s)
  front_length = length-take-le (span allowed (drop at s)) (drop at s) (span_short allowed (drop at s))

  from_cond : (b : Bool) → line_from at (cond b (a_line (take (span allowed (drop at s)) (drop at s)) (drop (span allowed (drop at s) + 2) (drop at s))) no_line) ≡ cond b (Some end) None
  unfolding line_from
  from_cond true = ap Some (ap (λ (n : ℕ). at + n) front_length ∙ sym e)
  from_cond false = refl

  line_by_place :
      line_at R s at ≡ cond (leb (span allowed (drop at s)) R.longest_line && begins crlf (drop end s)) (Some end) None
  unfolding line_at first_line
  line_by_place =
      rw behind_run (from_cond (leb (span allowed (drop at s)) R.longest_line && begins crlf (drop end s)))

  -- One law for each answer.
  pub line_too_long : R.longest_line < end - at → None ≡ line_at R s at
  line_too_long h = sym (line_by_place ∙ rw (lt-leb (span allowed (drop at s)) R.longest_line (omega arith)))

  pub line_missing : begins crlf (drop end s) ≡ false → None ≡ line_at R s at
  line_missing k = sym (line_by_place ∙ rw k (by (leb (span allowed (drop at s)) R.longest_line)))
    where
      by : (b : Bool) → cond (b && false) (Some end) None ≡ None
      by true = refl
      by false = refl

  pub line_found : end - at ≤ R.longest_line → begins crlf (drop end s) ≡ true → Some end ≡ line_at R s at
  line_found h k = sym (line_by_place ∙ rw (le-leb (span allowed (drop at s)) R.longest_line (omega arith), k))

-- One character more of a run, by the place behind it.
pub run_on : {s : Text} {at i j : ℕ} → Within allowed s at i → i < length s → {b : Bool} → b ≡ allowed (get_or s i 0) → not b ≡ false → i + 1 ≡ j → Within allowed s at j
run_on {s} {at} r h l e k = subst (λ (n : ℕ). Within allowed s at n) k (run_more r h l e)

-- What a line at a place says of the text there.
module _ (R : Rules) where
  first_law : (t : Text) → first_line R t ≡ cond (leb (span allowed t) R.longest_line && begins crlf (drop (span allowed t) t)) (a_line (take (span allowed t) t) (drop (span allowed t + 2) t)) no_line
  unfolding first_line
  first_law t = refl

  line_law : (s : Text) (at : ℕ) → line_at R s at ≡ line_from at (first_line R (drop at s))
  unfolding line_at
  line_law s at = refl

  pub record Stood (s : Text) (at end : ℕ) : Type 0 where
    pub line : first_line R (drop at s) ≡ a_line (take (end - at) (drop at s)) (drop (end + 2) s)
    pub long : length (take (end - at) (drop at s)) ≡ end - at
    pub behind : at ≤ end
    pub within : end + 2 ≤ length s

  module _ (s : Text) (at : ℕ) where
    stood_by : {end : ℕ} (b : Bool) →
        (leb (span allowed (drop at s)) R.longest_line && begins crlf (drop (span allowed (drop at s)) (drop at s))) ≡ b →
        line_from at (cond b (a_line (take (span allowed (drop at s)) (drop at s)) (drop (span allowed (drop at s) + 2) (drop at s))) no_line) ≡ Some end →
        Stood s at end
    unfolding line_from
    stood_by {end} true e q =
        let n : ℕ = span allowed (drop at s) in
        let t : Text = drop at s in
        let size : length (take n t) ≡ n = length-take-le n t (span_short allowed t) in
        let there : at + length (take n t) ≡ end = cc in
        let gap : n ≡ end - at = omega arith in
        let past : at + (n + 2) ≡ end + 2 = omega arith in
        let place : at + n ≡ end = omega arith in
        let crlf_there : begins crlf (drop end s) ≡ true =
        ap (λ (k : ℕ). begins crlf (drop k s)) (sym place)
        ∙ ap (begins crlf) (sym (drop-drop n at s))
        ∙ and_r (leb n R.longest_line) (begins crlf (drop n t)) e in
        record {
          line =
              first_law t
              ∙ ap (λ (b : Bool). cond b (a_line (take n t) (drop (n + 2) t)) no_line) e
              ∙ ap₂ a_line (ap (λ (k : ℕ). take k t) gap) (drop-drop (n + 2) at s ∙ ap (λ (k : ℕ). drop k s) past);
          long = ap (λ (k : ℕ). length (take k t)) (sym gap) ∙ size ∙ gap;
          behind = omega arith;
          within = ends_within s end crlf_there;
        }
    stood_by {end} false e q = let z : ◌≡◌ {A = ℕ} 0 1 = cc in absurd (omega arith)

    pub stood : {end : ℕ} → line_at R s at ≡ Some end → Stood s at end
    stood q = stood_by _ refl (ap (line_from at) (sym (first_law (drop at s))) ∙ sym (line_law s at) ∙ q)

    -- No line stands there.
    missed_by : (f : FirstLine) → line_from at f ≡ None → f ≡ no_line
    unfolding line_from
    missed_by (a_line l r) q = let z : ◌≡◌ {A = ℕ} 0 1 = cc in absurd (omega arith)
    missed_by no_line q = refl

    pub missed : line_at R s at ≡ None → first_line R (drop at s) ≡ no_line
    missed q = missed_by (first_line R (drop at s)) (sym (line_law s at) ∙ q)
