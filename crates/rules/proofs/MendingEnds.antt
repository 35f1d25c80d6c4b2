-- A line of a chewed text ends at LF and nowhere else, and the lines are the text; what is taken from the end of a line is one CR, or its spaces.
-- Assumes nothing.
use Prim.Native.Nat.{ℕ, suc, ◌≤◌}
use mathlib.Core.Path.{◌≡◌, refl, sym, ap, ap₂, subst, ◌∙◌}
use mathlib.Core.Logic.{⊎_elim}
use mathlib.Core.Bool.{Bool, true, false, cond, ◌&&◌}
use mathlib.Core.List.Memᴰ
use mathlib.Core.List.{List, [], ◌∷◌, ◌++◌}
use lib.Dec.{eqb}
use lib.ListN.{length, replicate, length-append}
use native.Mathlib.Omega.{arith}
use borrow.Author.Tests.{eqb-true, eqb-false}
use Rattle.rules.specs.Text.{Text, empty}
use Rattle.rules.specs.Mending.{ChewedLine, in_front, chewed_lines, ends_in_cr, without_cr, trimmed}
use Rattle.rules.specs.MendingDemands.{chewed_bytes, EndsAtLf, LinesEndAtLf, EndOfText}
use Rattle.rules.proofs.Tests.{so, never, clash, and_l, and_r}
use Rattle.rules.proofs.MendingLaws.{ends_behind, trimmed_twice}

-- A text with a character is not empty.
some_text : {A : Type 0} {c : ℕ} {t : Text} → c ∷ t ≡ [] → A
some_text e = let z : ◌≡◌ {A = ℕ} 0 1 = cc in absurd (omega arith)

-- # Lines

bytes_in_front : (c : ℕ) (ls : List ChewedLine) → chewed_bytes (in_front c ls) ≡ c ∷ chewed_bytes ls
unfolding chewed_bytes in_front
bytes_in_front c [] = refl
bytes_in_front c (l ∷ ls) = refl

bytes_of_lines : (s : Text) → chewed_bytes (chewed_lines s) ≡ s
unfolding chewed_bytes chewed_lines
bytes_of_lines [] = refl
bytes_of_lines (c ∷ s) = by (bytes_of_lines s) (eqb c 10) refl
  where
    by : chewed_bytes (chewed_lines s) ≡ s → (b : Bool) → eqb c 10 ≡ b → chewed_bytes (cond b (record { text = []; ends = true } ∷ chewed_lines s) (in_front c (chewed_lines s))) ≡ c ∷ s
    by h true e = ap₂ {C = Text} (λ x r. x ∷ r) (sym (eqb-true c 10 e)) h
    by h false e = bytes_in_front c (chewed_lines s) ∙ ap {B = Text} (λ r. c ∷ r) h

-- Each of the lines ends so, with those behind it.
abbrev EachEnds : List ChewedLine → Type 0
EachEnds [] = Unit {0}
EachEnds (l ∷ ls) = EndsAtLf l ls × EachEnds ls

in_front_ends : (c : ℕ) (ls : List ChewedLine) → (c ≡ 10 → ⊥) → EachEnds ls → EachEnds (in_front c ls)
unfolding in_front
in_front_ends c [] n k = (
  record { no_other = λ m. n (sym (Memᴰ.eq_of_singleton m)); last = λ e. (refl, λ z. some_text z) },
  tt,
)
in_front_ends c (l ∷ ls) n k = (
  record {
    no_other = λ m. ⊎_elim (λ (e : 10 ≡ c). n (sym e)) k.0.no_other (Memᴰ.cases_cons m);
    last = λ e. ((k.0.last e).0, λ z. some_text z);
  },
  k.1,
)

each_ends : (s : Text) → EachEnds (chewed_lines s)
unfolding chewed_lines
each_ends [] = tt
each_ends (c ∷ s) = by (each_ends s) (eqb c 10) refl
  where
    by : EachEnds (chewed_lines s) → (b : Bool) → eqb c 10 ≡ b → EachEnds (cond b (record { text = []; ends = true } ∷ chewed_lines s) (in_front c (chewed_lines s)))
    by k true e = (record { no_other = Memᴰ.not-nil; last = λ f. never (sym f) }, k)
    by k false e = in_front_ends c (chewed_lines s) (eqb-false c 10 e) k

ends_at : (front : List ChewedLine) (l : ChewedLine) (behind : List ChewedLine) → EachEnds (front ++ l ∷ behind) → EndsAtLf l behind
ends_at [] l behind k = k.0
ends_at (x ∷ front) l behind k = ends_at front l behind k.1

pub lines_end_at_lf_lem : (s : Text) → LinesEndAtLf s
lines_end_at_lf_lem s =
    record {
      text = bytes_of_lines s;
      each = λ front l behind e. ends_at front l behind (subst (λ (ls : List ChewedLine). EachEnds ls) e (each_ends s));
    }

-- # The end of a line

with_cr_lem : (t : Text) → ends_in_cr t ≡ true → t ≡ without_cr t ++ 13 ∷ []
unfolding ends_in_cr without_cr
with_cr_lem [] e = never e
with_cr_lem (c ∷ []) e = rw (e, eqb-true c 13 e)
with_cr_lem (c ∷ d ∷ t) e = ap (λ (r : Text). c ∷ r) (with_cr_lem (d ∷ t) e)

no_cr_lem : (t : Text) → ends_in_cr t ≡ false → t ≡ without_cr t
unfolding ends_in_cr without_cr
no_cr_lem [] e = refl
no_cr_lem (c ∷ []) e = rw e
no_cr_lem (c ∷ d ∷ t) e = ap (λ (r : Text). c ∷ r) (no_cr_lem (d ∷ t) e)

empty_is : (t : Text) → empty t ≡ true → t ≡ []
empty_is [] e = refl
empty_is (c ∷ t) e = never e

spaces : (t : Text) → (n : ℕ) × (t ≡ trimmed t ++ replicate n 32)
unfolding trimmed
spaces [] = (0, refl)
spaces (c ∷ t) = by (spaces t) (eqb c 32 && empty (trimmed t)) refl
  where
    by : (n : ℕ) × (t ≡ trimmed t ++ replicate n 32) → (b : Bool) → (eqb c 32 && empty (trimmed t)) ≡ b → (n : ℕ) × (c ∷ t ≡ cond b [] (c ∷ trimmed t) ++ replicate n 32)
    by (n, h) true e =
        let space : c ≡ 32 = eqb-true c 32 (and_l (eqb c 32) (empty (trimmed t)) e) in
        let none : trimmed t ≡ [] = empty_is (trimmed t) (and_r (eqb c 32) (empty (trimmed t)) e) in
        (suc n, ap₂ {C = Text} (λ x r. x ∷ r) space (h ∙ ap (λ (r : Text). r ++ replicate n 32) none))
    by (n, h) false e = (n, ap (λ (r : Text). c ∷ r) h)

-- A space at the end is dropped, and a text gets no longer, so no space is left there.
space_dropped : (t : Text) → trimmed (t ++ 32 ∷ []) ≡ trimmed t
unfolding trimmed
space_dropped [] = refl
space_dropped (c ∷ t) = rw (space_dropped t)

trimmed_short : (t : Text) → length (trimmed t) ≤ length t
unfolding trimmed
trimmed_short [] = omega arith
trimmed_short (c ∷ t) = by (trimmed_short t) (eqb c 32 && empty (trimmed t))
  where
    by : length (trimmed t) ≤ length t → (b : Bool) → length (cond b [] (c ∷ trimmed t)) ≤ suc (length t)
    by h true = omega arith
    by h false = omega arith

no_space : (t front : Text) → trimmed t ≡ front ++ 32 ∷ [] → ⊥
no_space t front e =
    let is : trimmed front ≡ front ++ 32 ∷ [] = sym (space_dropped front) ∙ ap trimmed (sym e) ∙ trimmed_twice t ∙ e in
    omega (arith, ap length is, length-append front (32 ∷ []), trimmed_short front)

pub end_of_text_lem : (t : Text) → EndOfText t
end_of_text_lem t =
    record {
      with_cr = λ e. with_cr_lem t (so (ends_in_cr t) e);
      no_cr = λ e. (no_cr_lem t e, λ front is. clash (ap ends_in_cr is ∙ ends_behind front 13) e);
      spaces = spaces t;
      no_more = no_space t;
    }
