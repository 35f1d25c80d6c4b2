-- The number of new texts in a list: striking makes it no greater, and it falls by no more than what is struck.
-- Assumes nothing.
use Prim.Native.Nat.{ℕ, ◌+◌, ◌≤◌}
use native.Mathlib.Omega.{arith}
use mathlib.Core.Path.{◌≡◌, refl, sym}
use mathlib.Core.Logic.{⊎_elim, ◌↔◌}
use mathlib.Core.Bool.{Bool, true, false, cond, not, ◌&&◌, ◌||◌}
use mathlib.Core.List.{List, [], ◌∷◌}
use lib.Dec.{T}
use Rattle.rules.specs.Text.{Text, same, empty}
use Rattle.rules.specs.Arguments.{among}
use Rattle.rules.specs.Striking.{Places, later, kept}
use Rattle.rules.proofs.Passing.{failed, decided, equal_tests, same→equal, equal→same}

-- A text that is not empty and was not seen before is new.
unfoldable pub fresh : List Text → Text → Bool
unfolding among
fresh seen t = not (empty t) && not (among seen t)

-- One text more was seen.
fresh_cons : (seen : List Text) (x t : Text) → T (fresh (x ∷ seen) t) ↔ (T (not (same x t)) × T (fresh seen t))
unfolding fresh among
fresh_cons seen x t = by (not (empty t)) (same x t) (among seen t)
  where
    by : (f s a : Bool) → T (f && not (s || a)) ↔ (T (not s) × T (f && not a))
    by true true a = (λ z. absurd z, λ w. w.0)
    by true false a = (λ z. (tt, z), λ w. w.1)
    by false s a = (λ z. absurd z, λ w. w.1)

abbrev pub tally : Bool → ℕ
tally b = cond b 1 0

-- Of two texts, whichever is seen first, as many are new.
either_first : (seen : List Text) (x t : Text) →
    tally (fresh seen x) + tally (fresh (x ∷ seen) t) ≡ tally (fresh seen t) + tally (fresh (t ∷ seen) x)
either_first seen x t = ⊎_elim equal different (decided (same x t))
  where
    equal : T (same x t) → tally (fresh seen x) + tally (fresh (x ∷ seen) t) ≡ tally (fresh seen t) + tally (fresh (t ∷ seen) x)
    equal s = rw (same→equal x t s)

    different : T (not (same x t)) → tally (fresh seen x) + tally (fresh (x ∷ seen) t) ≡ tally (fresh seen t) + tally (fresh (t ∷ seen) x)
    different n =
        let m : T (not (same t x)) = (failed (same t x)).1 (λ s. (failed (same x t)).0 n (equal→same x t (sym (same→equal t x s)))) in
        let e : fresh (x ∷ seen) t ≡ fresh seen t = equal_tests (fresh (x ∷ seen) t) (fresh seen t) (λ f. ((fresh_cons seen x t).0 f).1) (λ f. (fresh_cons seen x t).1 (n, f)) in
        let g : fresh (t ∷ seen) x ≡ fresh seen x = equal_tests (fresh (t ∷ seen) x) (fresh seen x) (λ f. ((fresh_cons seen t x).0 f).1) (λ f. (fresh_cons seen t x).1 (m, f)) in
        rw (e, g) (omega arith)

count_less : (a b : Bool) → (T a → T b) → tally a ≤ tally b
count_less true true f = omega arith
count_less true false f = absurd (f tt)
count_less false b f = omega arith

-- How many that count are struck.
module _ {A : Type 0} (counts : A → Bool) where
  unfoldable pub lost : Places → List A → ℕ
  lost struck [] = 0
  lost struck (a ∷ l) = tally (struck 0 && counts a) + lost (later struck) l

-- The texts of those that count, in a list where some do.
module _ {A : Type 0} (of : A → Text) (counts : A → Bool) where
  unfoldable pub news : List Text → List A → ℕ
  unfolding fresh
  news seen [] = 0
  news seen (a ∷ l) = cond (counts a) (tally (fresh seen (of a)) + news (of a ∷ seen) l) (news seen l)

  -- The fewer were seen, the more are new.
  fewer_seen : (seen less : List Text) (l : List A) → ((t : Text) → T (fresh seen t) → T (fresh less t)) → news seen l ≤ news less l
  unfolding news
  fewer_seen seen less [] f = omega arith
  fewer_seen seen less (a ∷ l) f =
      by (counts a)
      (fewer_seen (of a ∷ seen) (of a ∷ less) l (λ t g.
      let w = (fresh_cons seen (of a) t).0 g in
      (fresh_cons less (of a) t).1 (w.0, f t w.1)))
      (fewer_seen seen less l f)
    where
      by : (b : Bool) →
          news (of a ∷ seen) l ≤ news (of a ∷ less) l →
          news seen l ≤ news less l →
          cond b (tally (fresh seen (of a)) + news (of a ∷ seen) l) (news seen l)
          ≤ cond b (tally (fresh less (of a)) + news (of a ∷ less) l) (news less l)
      by true h k = let c = count_less (fresh seen (of a)) (fresh less (of a)) (f (of a)) in omega arith
      by false h k = k

  -- One text more was seen: if it was new, one less is.
  one_more_seen : (seen : List Text) (t : Text) (l : List A) → news seen l ≤ tally (fresh seen t) + news (t ∷ seen) l
  unfolding news
  one_more_seen seen t [] = omega arith
  one_more_seen seen t (a ∷ l) = by (counts a) (one_more_seen (of a ∷ seen) t l) (one_more_seen seen t l)
    where
      swapped : news (t ∷ of a ∷ seen) l ≤ news (of a ∷ t ∷ seen) l
      swapped = fewer_seen (t ∷ of a ∷ seen) (of a ∷ t ∷ seen) l (λ u f.
          let w = (fresh_cons (of a ∷ seen) t u).0 f in
          let z = (fresh_cons seen (of a) u).0 w.1 in
          (fresh_cons (t ∷ seen) (of a) u).1 (z.0, (fresh_cons seen t u).1 (w.0, z.1)))

      by : (b : Bool) →
          news (of a ∷ seen) l ≤ tally (fresh (of a ∷ seen) t) + news (t ∷ of a ∷ seen) l →
          news seen l ≤ tally (fresh seen t) + news (t ∷ seen) l →
          cond b (tally (fresh seen (of a)) + news (of a ∷ seen) l) (news seen l)
          ≤ tally (fresh seen t) + cond b (tally (fresh (t ∷ seen) (of a)) + news (of a ∷ t ∷ seen) l) (news (t ∷ seen) l)
      by true h k = omega (arith, either_first seen (of a) t, swapped)
      by false h k = k

  -- Striking makes nothing new.
  pub news_fall : (struck : Places) (seen : List Text) (l : List A) → news seen (kept struck l) ≤ news seen l
  unfolding news kept
  news_fall struck seen [] = omega arith
  news_fall struck seen (a ∷ l) =
      by (struck 0) (counts a) refl (news_fall (later struck) (of a ∷ seen) l) (news_fall (later struck) seen l)
    where
      by : (s b : Bool) →
          counts a ≡ b →
          news (of a ∷ seen) (kept (later struck) l) ≤ news (of a ∷ seen) l →
          news seen (kept (later struck) l) ≤ news seen l →
          news seen (cond s (kept (later struck) l) (a ∷ kept (later struck) l))
          ≤ cond b (tally (fresh seen (of a)) + news (of a ∷ seen) l) (news seen l)
      by true true e h k = omega (arith, one_more_seen seen (of a) l)
      by true false e h k = k
      by false true e h k = rw e (omega arith)
      by false false e h k = rw e k

  -- It takes away no more than it strikes.
  pub news_kept : (struck : Places) (seen : List Text) (l : List A) → news seen l ≤ news seen (kept struck l) + lost counts struck l
  unfolding news kept lost
  news_kept struck seen [] = omega arith
  news_kept struck seen (a ∷ l) =
      by (struck 0) (counts a) refl (news_kept (later struck) (of a ∷ seen) l) (news_kept (later struck) seen l)
    where
      seen_less : news (of a ∷ seen) l ≤ news seen l
      seen_less = fewer_seen (of a ∷ seen) seen l (λ t f. ((fresh_cons seen (of a) t).0 f).1)

      at_most_one : (b : Bool) → tally b ≤ 1
      at_most_one true = omega arith
      at_most_one false = omega arith

      by : (s b : Bool) →
          counts a ≡ b →
          news (of a ∷ seen) l ≤ news (of a ∷ seen) (kept (later struck) l) + lost counts (later struck) l →
          news seen l ≤ news seen (kept (later struck) l) + lost counts (later struck) l →
          cond b (tally (fresh seen (of a)) + news (of a ∷ seen) l) (news seen l)
          ≤ news seen (cond s (kept (later struck) l) (a ∷ kept (later struck) l)) + (tally (s && b) + lost counts (later struck) l)
      by true true e h k = omega (arith, seen_less, at_most_one (fresh seen (of a)))
      by true false e h k = omega arith
      by false true e h k = rw e (omega arith)
      by false false e h k = rw e (omega arith)
