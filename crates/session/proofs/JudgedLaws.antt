-- The look-back over what is kept of records is the look-back over the credited ones, so a record is judged as document 01 says.
-- Assumes nothing.
use Prim.Native.Nat.{ℕ, zero, suc, ◌+◌, ◌*◌, ◌≤◌}
use native.Mathlib.Omega.{arith}
use native.Mathlib.Nat.{zero-mul, suc-mul, add-mul}
use mathlib.Core.Path.{◌≡◌, refl, sym, ap, ◌∙◌}
use mathlib.Core.Bool.{Bool, true, false, cond, not, ◌&&◌, ◌||◌, or-false}
use mathlib.Core.List.{List, [], ◌∷◌, ◌++◌}
use lib.ListN.{length, take, drop, replicate, length-append}
use lib.Seq.{take-take, take-add, take_at, drop_at, drop-drop}
use Rattle.rules.specs.declared.Class.{Class}
use Rattle.rules.specs.declared.Class.TheVariants.{Credited}
use Rattle.rules.specs.declared.Verdict.{Verdict}
use Rattle.rules.specs.Text.{Text, same, empty}
use Rattle.rules.specs.Rules.{Rules}
use Rattle.rules.specs.Fields.{Qso, is_error, field_rules}
use Rattle.rules.specs.Log.{conjunction, record_rules}
use Rattle.rules.specs.Judging.{is, some, same_call, claims_points, worked, may_repeat, class_of, square, exchange_of, is_new, claims_country, verdict_of, credited_after, verdicts_after, verdicts}
use Rattle.rules.proofs.Tests.{and_l, and_r}
use Rattle.judge.specs.Said.{class_by, verdict_by}
use Rattle.judge.proofs.SaidLaws.{class_said, verdict_said}
use Rattle.session.specs.Entry.{filled, entry_of, kept_of, stands_at, held_in, class_kept, new_in, verdict_kept, bytes_of, credited_from, FitsBytes}
use Rattle.session.proofs.LookLaws.{any_from, look_by}
use Rattle.session.proofs.FilledLaws.{Part, length_filled, same_filled, zero_not_filled}
use Rattle.session.proofs.EntryLaws.{home_part, home_there_lem, square_part, exchange_part, length_front, home_lies, square_lies, exchange_lies}

-- What lies inside the front of a text.
inside : (at w m : ℕ) (t : Text) → at + w ≤ m → take w (drop at (take m t)) ≡ take w (drop at t)
inside zero w m t h = take-take w m t (omega arith)
inside (suc at) w zero t h = absurd (omega arith)
inside (suc at) w (suc m) [] h = refl
inside (suc at) w (suc m) (c ∷ t) h = inside at w m t (omega arith)

swap : (a b c : Bool) → (a || (b || c)) ≡ (b || a || c)
swap true true c = refl
swap true false c = refl
swap false true c = refl
swap false false c = refl

-- Of each record so many bytes are kept: at least the 24 in which the three parts lie, and at most all.
module _ {R : Rules} (B : FitsBytes R) (width : ℕ) (wide : 24 ≤ width) (narrow : width ≤ 28) where
  abbrev Ruled : Qso → Type 0
  Ruled q = conjunction (field_rules R q) ≡ true

  pub length_bytes : (qs : List Qso) (vs : List Verdict) → record_rules R qs ≡ true → length vs ≡ length qs → length (bytes_of R width qs vs) ≡ length qs * width
  unfolding bytes_of record_rules
  length_bytes [] vs h e = sym (zero-mul width)
  length_bytes (q ∷ qs) [] h e = absurd (omega arith)
  length_bytes (q ∷ qs) (v ∷ vs) h e =
      let first = length_front B q (and_l (conjunction (field_rules R q)) (record_rules R qs) h) width narrow v.class in
      let rest = length_bytes qs vs (and_r (conjunction (field_rules R q)) (record_rules R qs) h) (omega arith) in
      omega (arith, length-append (take width (kept_of R v.class q)) (bytes_of R width qs vs), suc-mul (length qs) width)

  -- A place in an entry, and what of a record stands there.
  record Place (at size : ℕ) (of : Qso → Text) : Type 0 where
    pub room : at + size ≤ 24
    pub blank : take {A = ℕ} size (drop at (replicate 28 0)) ≡ replicate size 0
    pub part : (q : Qso) → Ruled q → Part size (of q)
    pub lies : (q : Qso) → Ruled q → take size (drop at (entry_of R q)) ≡ filled size (of q)

  module _ (at size : ℕ) (of : Qso → Text) (place : Place at size of) (t : Text) (part : Part size t) (there : empty t ≡ false) where
    -- A text that is there stands in an entry exactly if the record is credited and has it.
    stands_in : (class : Class) (q : Qso) → Ruled q → same (take size (drop at (kept_of R class q))) (filled size t) ≡ (is Credited class && same (of q) t)
    unfolding kept_of
    stands_in class q h = by (is Credited class)
      where
        by : (b : Bool) → same (take size (drop at (cond b (entry_of R q) (replicate 28 0)))) (filled size t) ≡ (b && same (of q) t)
        by true = ap (λ (u : Text). same u (filled size t)) (place.lies q h) ∙ same_filled size (of q) t (place.part q h) part
        by false = ap (λ (u : Text). same u (filled size t)) place.blank ∙ zero_not_filled size t there part.clean

    -- It does so too in the bytes that are kept of the entry, since the place ends within the first 24.
    in_front_lem : (u : Text) → take size (drop at (take width u)) ≡ take size (drop at u)
    in_front_lem u = inside at size width u (omega (arith, place.room, wide))

    module _ (kept : List ℕ) where
      stands_by : (i : ℕ) (class : Class) (q : Qso) → Ruled q → take width (drop (i * width) kept) ≡ take width (kept_of R class q) → stands_at kept width at (filled size t) i ≡ (is Credited class && same (of q) t)
      stands_by i class q h e =
          ap (λ (n : ℕ). same (take n (drop (i * width + at) kept)) (filled size t)) (length_filled size t part.short)
          ∙ ap (λ (u : Text). same (take size u) (filled size t)) (sym (drop-drop at (i * width) kept))
          ∙ ap (λ (u : Text). same u (filled size t)) (sym (in_front_lem (drop (i * width) kept)))
          ∙ ap (λ (u : Text). same (take size (drop at u)) (filled size t)) e
          ∙ ap (λ (u : Text). same u (filled size t)) (in_front_lem (kept_of R class q))
          ∙ stands_in class q h

      abbrev has : Qso → Bool
      has e = same (of e) t

      some_after : (class : Class) (q : Qso) (credited : List Qso) → some has (credited_after class q credited) ≡ (is Credited class && has q || some has credited)
      unfolding credited_after some
      some_after class q credited = by (is Credited class)
        where
          by : (b : Bool) → some has (cond b (q ∷ credited) credited) ≡ (b && has q || some has credited)
          by true = refl
          by false = refl

      held_from : (i : ℕ) (credited qs : List Qso) → record_rules R qs ≡ true → take (length qs * width) (drop (i * width) kept) ≡ bytes_of R width qs (verdicts_after R credited qs) → some has (credited_from R credited qs) ≡ (any_from (stands_at kept width at (filled size t)) (length qs) i || some has credited)
      unfolding credited_from any_from record_rules verdicts_after bytes_of
      held_from i credited [] h e = refl
      held_from i credited (q ∷ qs) h e =
          let class = (verdict_of R credited q).class in
          let after = credited_after class q credited in
          let here = drop (i * width) kept in
          let front = take width (kept_of R class q) in
          let rest = bytes_of R width qs (verdicts_after R after qs) in
          let ruled = and_l (conjunction (field_rules R q)) (record_rules R qs) h in
          let long = length_front B q ruled width narrow class in
          let count : width + length qs * width ≡ suc (length qs) * width = omega (arith, suc-mul (length qs) width) in
          let next : i * width + width ≡ (i + 1) * width = omega (arith, add-mul i 1 width) in
          let first : take width here ≡ front =
          sym (take-take width (suc (length qs) * width) here (omega (arith, count))) ∙ ap (take width) e ∙ take_at front rest width long in
          let others : take (length qs * width) (drop ((i + 1) * width) kept) ≡ rest =
          ap (λ (n : ℕ). take (length qs * width) (drop n kept)) (sym next)
          ∙ ap (take (length qs * width)) (sym (drop-drop width (i * width) kept))
          ∙ sym (drop_at front (take (length qs * width) (drop width here)) width long)
          ∙ ap (λ (u : Text). drop width (u ++ take (length qs * width) (drop width here))) (sym first)
          ∙ ap (drop width) (sym (take-add width (length qs * width) here) ∙ ap (λ (n : ℕ). take n here) count ∙ e)
          ∙ drop_at front rest width long in
          let found = any_from (stands_at kept width at (filled size t)) (length qs) (i + 1) in
          held_from (i + 1) after qs (and_r (conjunction (field_rules R q)) (record_rules R qs) h) others
          ∙ ap (λ (b : Bool). found || b) (some_after class q credited)
          ∙ swap found (is Credited class && has q) (some has credited)
          ∙ ap (λ (b : Bool). b || found || some has credited) (sym (stands_by i class q ruled first))

      held_by : (qs : List Qso) → record_rules R qs ≡ true → take (length qs * width) kept ≡ bytes_of R width qs (verdicts R qs) → held_in kept width (length qs) at (filled size t) ≡ some has (credited_from R [] qs)
      unfolding held_in verdicts some
      held_by qs h e =
          let stands = stands_at kept width at (filled size t) in
          let start = ap (λ (n : ℕ). take (length qs * width) (drop n kept)) (zero-mul width) in
          look_by stands (length qs) ∙ sym (held_from 0 [] qs h (start ∙ e) ∙ or-false (any_from stands (length qs) 0))

  -- # A record after those that are kept

  call_place : Place 0 14 (λ q. R.home q.call)
  call_place = record { room = omega arith; blank = refl; part = home_part B; lies = home_lies B }

  square_place : Place 14 4 square
  square_place = record { room = omega arith; blank = refl; part = square_part B; lies = square_lies B }

  exchange_place : Place 18 6 (exchange_of R)
  exchange_place = record { room = omega arith; blank = refl; part = exchange_part B; lies = exchange_lies B }

  module _ (kept : List ℕ) (qs : List Qso) (rules : record_rules R qs ≡ true) (are : take (length qs * width) kept ≡ bytes_of R width qs (verdicts R qs)) (q : Qso) (ruled : conjunction (field_rules R q) ≡ true) where
    pub call_held : held_in kept width (length qs) 0 (filled 14 (R.home q.call)) ≡ some (λ e. same_call R e.call q.call) (credited_from R [] qs)
    call_held = held_by 0 14 (λ e. R.home e.call) call_place (R.home q.call) (home_part B q ruled) (home_there_lem B q ruled) kept qs rules are

    pub square_held : empty (square q) ≡ false → held_in kept width (length qs) 14 (filled 4 (square q)) ≡ some (λ e. same (square e) (square q)) (credited_from R [] qs)
    square_held there = held_by 14 4 square square_place (square q) (square_part B q ruled) there kept qs rules are

    pub exchange_held : empty (exchange_of R q) ≡ false → held_in kept width (length qs) 18 (filled 6 (exchange_of R q)) ≡ some (λ e. same (exchange_of R e) (exchange_of R q)) (credited_from R [] qs)
    exchange_held there = held_by 18 6 (exchange_of R) exchange_place (exchange_of R q) (exchange_part B q ruled) there kept qs rules are

    new_by : (at size : ℕ) (of : Qso → Text) → Place at size of → new_in kept width (length qs) at size (of q) ≡ is_new of (credited_from R [] qs) q
    unfolding new_in is_new
    new_by at size of place = by (of q) (place.part q ruled)
      where
        by : (t : Text) → Part size t → (not (empty t) && not (held_in kept width (length qs) at (filled size t))) ≡ (not (empty t) && not (some (λ e. same (of e) t) (credited_from R [] qs)))
        by [] p = refl
        by (c ∷ t) p = ap not (held_by at size of place (c ∷ t) p refl kept qs rules are)

    -- The class, and all that is said.
    class_as_judged : class_kept R kept width (length qs) q ≡ class_of R (credited_from R [] qs) q
    unfolding class_kept worked
    class_as_judged =
        ap (λ (b : Bool). class_by (is_error q) (may_repeat q && b) (claims_points q)) call_held ∙ class_said R (credited_from R [] qs) q

    pub said_as_judged : verdict_kept R kept width (length qs) q ≡ verdict_of R (credited_from R [] qs) q
    unfolding verdict_kept
    said_as_judged =
        (λ i. verdict_by (class_as_judged i) (new_by 18 6 (exchange_of R) exchange_place i) (new_by 14 4 square square_place i) (claims_country q))
        ∙ verdict_said R (credited_from R [] qs) q
