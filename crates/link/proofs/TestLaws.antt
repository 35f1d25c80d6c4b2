-- The tests of a piece, one after the other, as the code asks them.
-- Assumes nothing.
use Prim.Native.Nat.{ℕ, ◌+◌, ◌-◌, ◌≤◌, ◌<◌}
use native.Mathlib.Omega.{arith}
use mathlib.Core.Path.{◌≡◌, refl, sym, ◌∙◌}
use mathlib.Core.Bool.{Bool, true, false, cond, not, ◌&&◌, ◌||◌, and-true}
use mathlib.Core.List.{List}
use lib.Dec.{eqb, leb, ltb}
use lib.ListN.{length, drop, get_or}
use borrow.Author.Tests.{lt-ltb, le-ltb, le-leb, lt-leb, leb-true, ltb-true, eq-eqb, ne_eqb, eqb-true, not-true}
use Rattle.rules.specs.Text.{Text, allowed, span, begins}
use Rattle.rules.specs.Rules.{Rules, base}
use Rattle.rules.specs.Log.{conjunction, crlf}
use Rattle.rules.specs.Reading.{refusal}
use Rattle.rules.proofs.Tests.{and_l, and_r, clash}
use Rattle.reader.specs.Contact.{between}
use Rattle.writer.specs.Written.{written}
use Rattle.judge.specs.Bounds.{most_worth}
use Rattle.link.specs.declared.Link.{Link}
use Rattle.link.specs.Link.{stopped_by, line_of, due_of, is_end, held_as}
use Rattle.link.specs.Piece.{declares, run_end, is_ended, next_place, may_come, held_on, takes_byte}

-- # The limits

-- Two logs of any length that the rules allow have fewer bytes than a number of four bytes counts.
pub log_fits : base.longest_log < 2_147_483_648
unfolding base
log_fits = omega arith

pub line_long : base.longest_line ≡ 75
unfolding base
line_long = refl

pub worth_fits : (worth : ℕ) → worth ≤ most_worth base → worth < 4_294_967_296
unfolding base
worth_fits worth h = omega (arith, h)

-- # What a line declares

module _ (stage : ℕ) where
  pub declares_squares : stage ≡ 29 → true ≡ declares stage
  unfolding declares
  declares_squares e = rw (eq-eqb stage 29 e)

  pub declares_exchanges : (stage ≡ 29 → ⊥) → stage ≡ 31 → true ≡ declares stage
  unfolding declares
  declares_exchanges n e = rw (ne_eqb stage 29 n, eq-eqb stage 31 e)

  pub declares_others : (stage ≡ 29 → ⊥) → (stage ≡ 31 → ⊥) → eqb stage 33 ≡ declares stage
  unfolding declares
  declares_others n m = rw (ne_eqb stage 29 n, ne_eqb stage 31 m)

  pub declares_not : declares stage ≡ false → (stage ≡ 29 → ⊥) × (stage ≡ 31 → ⊥) × (stage ≡ 33 → ⊥)
  declares_not e =
      let squares : stage ≡ 29 → ⊥ = λ g. clash (sym (declares_squares g)) e in
      let exchanges : stage ≡ 31 → ⊥ = λ g. clash (sym (declares_exchanges squares g)) e in
      (squares, exchanges, (λ g. clash (eq-eqb stage 33 g) (declares_others squares exchanges ∙ e)))

  pub declares_countries : declares stage ≡ true → (stage ≡ 29 → ⊥) → (stage ≡ 31 → ⊥) → stage ≡ 33
  declares_countries e n m = eqb-true stage 33 (declares_others n m ∙ e)

-- # Places

module _ (returned : ℕ) (s : Text) (at : ℕ) where
  pub run_returned : (returned ≡ 0 → ⊥) → at ≡ run_end returned s at
  unfolding run_end
  run_returned n = rw (ne_eqb returned 0 n)

  pub run_plain : returned ≡ 0 → at + span allowed (drop at s) ≡ run_end returned s at
  unfolding run_end
  run_plain e = rw (eq-eqb returned 0 e)

pub place_returned : (returned end : ℕ) → (returned ≡ 0 → ⊥) → end + 1 ≡ next_place returned end
unfolding next_place
place_returned returned end n = rw (ne_eqb returned 0 n)

pub place_plain : (returned end : ℕ) → returned ≡ 0 → end + 2 ≡ next_place returned end
unfolding next_place
place_plain returned end e = rw (eq-eqb returned 0 e)

pub none_more : (end long : ℕ) → end ≡ long → ◌≡◌ {A = ℕ} 0 (cond (eqb end long) 0 1)
none_more end long e = rw (eq-eqb end long e)

pub one_more : (end long : ℕ) → (end ≡ long → ⊥) → ◌≡◌ {A = ℕ} 1 (cond (eqb end long) 0 1)
one_more end long n = rw (ne_eqb end long n)

-- # The end of a line

module _ (R : Rules) (held returned : ℕ) (s : Text) (at end : ℕ) where
  pub ended_returned : (returned ≡ 0 → ⊥) → eqb (get_or s at 0) 10 ≡ is_ended R held returned s at end
  unfolding is_ended
  ended_returned n = rw (ne_eqb returned 0 n)

  pub ended_long : returned ≡ 0 → R.longest_line < held + (end - at) → false ≡ is_ended R held returned s at end
  unfolding is_ended
  ended_long e h = rw (eq-eqb returned 0 e, lt-leb (held + (end - at)) R.longest_line h)

  pub ended_plain : returned ≡ 0 → held + (end - at) ≤ R.longest_line → begins crlf (drop end s) ≡ is_ended R held returned s at end
  unfolding is_ended
  ended_plain e h = rw (eq-eqb returned 0 e, le-leb (held + (end - at)) R.longest_line h)

-- # A part of a line

module _ (R : Rules) (held : ℕ) (s : Text) (at end : ℕ) where
  pub comes_long : R.longest_line < held + (end - at) → false ≡ may_come R held s at end
  unfolding may_come
  comes_long h = rw (lt-leb (held + (end - at)) R.longest_line h)

  pub comes_whole : held + (end - at) ≤ R.longest_line → end ≡ length s → true ≡ may_come R held s at end
  unfolding may_come
  comes_whole h e = rw (le-leb (held + (end - at)) R.longest_line h, eq-eqb end (length s) e)

  pub comes_stray : held + (end - at) ≤ R.longest_line → (end ≡ length s → ⊥) → (get_or s end 0 ≡ 13 → ⊥) → false ≡ may_come R held s at end
  unfolding may_come
  comes_stray h n c = rw (le-leb (held + (end - at)) R.longest_line h, ne_eqb end (length s) n, ne_eqb (get_or s end 0) 13 c)

  pub comes_return : held + (end - at) ≤ R.longest_line → (end ≡ length s → ⊥) → get_or s end 0 ≡ 13 → eqb (end + 1) (length s) ≡ may_come R held s at end
  unfolding may_come
  comes_return h n c = rw (le-leb (held + (end - at)) R.longest_line h, ne_eqb end (length s) n, eq-eqb (get_or s end 0) 13 c)

-- # What is left is held

module _ (R : Rules) (s : Link) (t : Text) (at end : ℕ) (over : Bool) where
  pub hold_returned : (s.returned ≡ 0 → ⊥) → stopped_by (refusal 2 (line_of s) 0) ≡ held_on R s t at end over
  unfolding held_on
  hold_returned n = rw (ne_eqb s.returned 0 n)

  pub hold_stray : s.returned ≡ 0 → may_come R s.held t at end ≡ false → stopped_by (refusal 2 (line_of s) 0) ≡ held_on R s t at end over
  unfolding held_on
  hold_stray e m = rw (eq-eqb s.returned 0 e, m)

  pub hold_over : s.returned ≡ 0 → may_come R s.held t at end ≡ true → over ≡ true → stopped_by (refusal 1 0 0) ≡ held_on R s t at end over
  unfolding held_on
  hold_over e m o = rw (eq-eqb s.returned 0 e, m, o)

  pub hold_kept : s.returned ≡ 0 → may_come R s.held t at end ≡ true → over ≡ false → {r : Link} {held returned : ℕ} {line : List ℕ} → r ≡ held_as held returned line s → held ≡ s.held + (end - at) → returned ≡ cond (eqb end (length t)) 0 1 → line ≡ written s.line s.held (between t at end) → r ≡ held_on R s t at end over
  unfolding held_on
  hold_kept e m o g h c l = g ∙ (λ i. held_as (h i) (c i) (l i) s) ∙ rw (eq-eqb s.returned 0 e, m, o)

pub come_short : (R : Rules) (held : ℕ) (t : Text) (at end : ℕ) → may_come R held t at end ≡ true → held + (end - at) ≤ R.longest_line
unfolding may_come
come_short R held t at end e =
    leb-true (held + (end - at)) R.longest_line (and_l (leb (held + (end - at)) R.longest_line) (eqb end (length t) || eqb (get_or t end 0) 13 && eqb (end + 1) (length t)) e)

-- # One byte

module _ (R : Rules) (s : Link) (b : ℕ) where
  pub full_log_lem : R.longest_log ≤ s.count → false ≡ takes_byte R s b
  unfolding takes_byte conjunction
  full_log_lem h = rw (le-ltb s.count R.longest_log h)

  pub no_line_due_lem : s.count < R.longest_log → is_end (due_of s) ≡ true → false ≡ takes_byte R s b
  unfolding takes_byte conjunction
  no_line_due_lem h e = rw (lt-ltb s.count R.longest_log h, e)

  module _ (room : s.count < R.longest_log) (line : is_end (due_of s) ≡ false) where
    pub behind_return_lem : (s.returned ≡ 0 → ⊥) → false ≡ takes_byte R s b
    unfolding takes_byte conjunction
    behind_return_lem n = rw (lt-ltb s.count R.longest_log room, line, ne_eqb s.returned 0 n)

    pub full_line : s.returned ≡ 0 → R.longest_line ≤ s.held → false ≡ takes_byte R s b
    unfolding takes_byte conjunction
    full_line e h = rw (lt-ltb s.count R.longest_log room, line, eq-eqb s.returned 0 e, le-ltb s.held R.longest_line h)

    pub by_character : s.returned ≡ 0 → s.held < R.longest_line → allowed b ≡ takes_byte R s b
    unfolding takes_byte conjunction
    by_character e h =
        rw (lt-ltb s.count R.longest_log room, line, eq-eqb s.returned 0 e, lt-ltb s.held R.longest_line h, and-true (allowed b))

  pub record Takes : Type 0 where
    pub room : s.count < R.longest_log
    pub line : is_end (due_of s) ≡ false
    pub plain : s.returned ≡ 0
    pub short : s.held < R.longest_line
    pub good : allowed b ≡ true

  pub takes_byte_lem : takes_byte R s b ≡ true → Takes
  unfolding takes_byte conjunction
  takes_byte_lem e =
      let a = ltb s.count R.longest_log in
      let d = not (is_end (due_of s)) in
      let p = eqb s.returned 0 in
      let h = ltb s.held R.longest_line in
      let g = allowed b in
      let e1 = and_r a (d && (p && (h && (g && true)))) e in
      let e2 = and_r d (p && (h && (g && true))) e1 in
      let e3 = and_r p (h && (g && true)) e2 in
      let e4 = and_r h (g && true) e3 in
      record {
        room = ltb-true s.count R.longest_log (and_l a (d && (p && (h && (g && true)))) e);
        line = not-true (is_end (due_of s)) (and_l d (p && (h && (g && true))) e1);
        plain = eqb-true s.returned 0 (and_l p (h && (g && true)) e2);
        short = ltb-true s.held R.longest_line (and_l h (g && true) e3);
        good = and_l g true e4;
      }
