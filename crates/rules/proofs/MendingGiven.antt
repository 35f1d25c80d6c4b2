-- What the mender answers: a refusal exactly when its row says, in the order of the rows, or the mended log, which is then accepted. Over any rules.
-- Assumes nothing.
use Prim.Native.Nat.{ℕ, ◌≤◌, ◌<◌}
use mathlib.Core.Path.{◌≡◌, refl, sym, ap, subst, ◌∙◌}
use mathlib.Core.Logic.{◌⊎◌, inl, inr, ◌↔◌}
use mathlib.Core.Bool.{Bool, true, false, cond, ◌&&◌, and-false}
use mathlib.Core.List.{List}
use lib.Dec.{leb, ltb}
use lib.ListN.{length}
use native.Mathlib.Decide.{dec_lt}
use native.Mathlib.Omega.{arith}
use borrow.Author.Tests.{le-leb, lt-leb, le-ltb, lt-ltb}
use Rattle.rules.specs.declared.Refusal.{Refusal}
use Rattle.rules.specs.Text.{Text}
use Rattle.rules.specs.Rules.{Rules}
use Rattle.rules.specs.Log.{FollowsTheFormat}
use Rattle.rules.specs.Reading.{Reading, accepted, refused, refusal, read}
use Rattle.rules.specs.Answers.{no_refusal, over}
use Rattle.rules.specs.Given.{LineAndField}
use Rattle.rules.specs.Mending.{mended_text, Change, changes, Rooms, Mending, mended, unmended, hand_over, mend_reading, mend, refusal_of_mending, bytes_of_mending, kinds_of_mending, lines_of_mending}
use Rattle.rules.specs.MendingDemands.{HandedOverIsAccepted, ListIsTooLong, GivenByMending, RefusedMendingChangesNothing}
use Rattle.rules.proofs.Tests.{and_i}
use Rattle.rules.proofs.Format.{accepted_when_written}
use Rattle.rules.proofs.GivenRefusals.{no_place, numbered, placed, given_by_reading}

-- A refusal hands nothing over.
no_text : {A : Type 0} {r : Refusal} {t : Text} {cs : List Change} → unmended r ≡ mended t cs → A
no_text e = let z : ◌≡◌ {A = ℕ} 0 1 = cc in absurd (omega arith)

-- # What is handed over

module _ (rooms : Rooms) (t : Text) (cs : List Change) where
  abbrev list_fits : Bool
  list_fits = leb (length cs) rooms.kinds && leb (length cs) rooms.lines

  abbrev text_fits : Mending
  text_fits = cond (leb (length t) rooms.out) (mended t cs) (unmended (refusal 8 0 0))

  listed : (b : Bool) → list_fits ≡ b → hand_over rooms t cs ≡ cond b text_fits (unmended (refusal 10 0 0))
  unfolding hand_over
  listed b e = ap (λ (c : Bool). cond c text_fits (unmended (refusal 10 0 0))) e

  list_short : (rooms.kinds < length cs) ⊎ (rooms.lines < length cs) → list_fits ≡ false
  list_short (inl h) = rw (lt-leb (length cs) rooms.kinds h)
  list_short (inr h) = rw (lt-leb (length cs) rooms.lines h, and-false (leb (length cs) rooms.kinds))

  list_room : length cs ≤ rooms.kinds → length cs ≤ rooms.lines → list_fits ≡ true
  list_room h g = and_i (le-leb (length cs) rooms.kinds h) (le-leb (length cs) rooms.lines g)

  ten_handed : (rooms.kinds < length cs) ⊎ (rooms.lines < length cs) → hand_over rooms t cs ≡ unmended (refusal 10 0 0)
  ten_handed h = listed false (list_short h)

  eight_handed : length cs ≤ rooms.kinds → length cs ≤ rooms.lines → rooms.out < length t → hand_over rooms t cs ≡ unmended (refusal 8 0 0)
  eight_handed h g k = listed true (list_room h g) ∙ rw (lt-leb (length t) rooms.out k)

  all_handed : length cs ≤ rooms.kinds → length cs ≤ rooms.lines → length t ≤ rooms.out → hand_over rooms t cs ≡ mended t cs
  all_handed h g k = listed true (list_room h g) ∙ rw (le-leb (length t) rooms.out k)

-- # What is answered

module _ (R : Rules) (rooms : Rooms) (s : Text) where
  abbrev by_log : Mending
  by_log = mend_reading rooms (mended_text s) (changes s) (read R (mended_text s))

  mend_at : (b : Bool) → ltb R.longest_log (length s) ≡ b → mend R rooms s ≡ cond b (unmended (refusal 1 0 0)) by_log
  unfolding mend
  mend_at b e = ap (λ (c : Bool). cond c (unmended (refusal 1 0 0)) by_log) e

  mend_long : R.longest_log < length s → mend R rooms s ≡ unmended (refusal 1 0 0)
  mend_long h = mend_at true (lt-ltb R.longest_log (length s) h)

  module _ (short : length s ≤ R.longest_log) where
    mend_reads : (a : Reading) → read R (mended_text s) ≡ a → mend R rooms s ≡ mend_reading rooms (mended_text s) (changes s) a
    mend_reads a e =
        mend_at false (le-ltb R.longest_log (length s) short) ∙ ap (mend_reading rooms (mended_text s) (changes s)) e

    mend_refused : (r : Refusal) → read R (mended_text s) ≡ refused r → mend R rooms s ≡ unmended r
    unfolding mend_reading
    mend_refused r e = mend_reads (refused r) e

    mend_accepted : FollowsTheFormat R (mended_text s) → mend R rooms s ≡ hand_over rooms (mended_text s) (changes s)
    unfolding mend_reading
    mend_accepted f = mend_reads (accepted f.0) ((accepted_when_written R (mended_text s) f.0).1 f.1)

    module _ (format : FollowsTheFormat R (mended_text s)) where
      mend_ten : ListIsTooLong rooms s → mend R rooms s ≡ unmended (refusal 10 0 0)
      mend_ten h = mend_accepted format ∙ ten_handed rooms (mended_text s) (changes s) h

      module _ (fits : ListIsTooLong rooms s → ⊥) where
        list_kinds : length (changes s) ≤ rooms.kinds
        list_kinds = by (dec_lt rooms.kinds (length (changes s)))
          where
            by : Dec (rooms.kinds < length (changes s)) → length (changes s) ≤ rooms.kinds
            by (yes h) = absurd (fits (inl h))
            by (no h) = omega arith

        list_lines : length (changes s) ≤ rooms.lines
        list_lines = by (dec_lt rooms.lines (length (changes s)))
          where
            by : Dec (rooms.lines < length (changes s)) → length (changes s) ≤ rooms.lines
            by (yes h) = absurd (fits (inr h))
            by (no h) = omega arith

        mend_eight : rooms.out < length (mended_text s) → mend R rooms s ≡ unmended (refusal 8 0 0)
        mend_eight h =
            mend_accepted format ∙ eight_handed rooms (mended_text s) (changes s) list_kinds list_lines h

        pub mend_all : length (mended_text s) ≤ rooms.out → mend R rooms s ≡ mended (mended_text s) (changes s)
        mend_all h = mend_accepted format ∙ all_handed rooms (mended_text s) (changes s) list_kinds list_lines h

  -- One of five things happens.
  data Outcome : Type 0 where
    too_long : R.longest_log < length s → mend R rooms s ≡ unmended (refusal 1 0 0) → Outcome
    unread :
        (r : Refusal) → length s ≤ R.longest_log → read R (mended_text s) ≡ refused r → mend R rooms s ≡ unmended r → Outcome
    list_too_long :
        length s ≤ R.longest_log →
        FollowsTheFormat R (mended_text s) →
        ListIsTooLong rooms s →
        mend R rooms s ≡ unmended (refusal 10 0 0) →
        Outcome
    text_too_long :
        length s ≤ R.longest_log →
        FollowsTheFormat R (mended_text s) →
        (ListIsTooLong rooms s → ⊥) →
        rooms.out < length (mended_text s) →
        mend R rooms s ≡ unmended (refusal 8 0 0) →
        Outcome
    handed :
        length s ≤ R.longest_log →
        FollowsTheFormat R (mended_text s) →
        (ListIsTooLong rooms s → ⊥) →
        length (mended_text s) ≤ rooms.out →
        mend R rooms s ≡ mended (mended_text s) (changes s) →
        Outcome

  outcome : Outcome
  outcome = by (dec_lt R.longest_log (length s))
    where
      fitted : (short : length s ≤ R.longest_log) (format : FollowsTheFormat R (mended_text s)) → (ListIsTooLong rooms s → ⊥) → Dec (rooms.out < length (mended_text s)) → Outcome
      fitted short format fits (yes h) = text_too_long short format fits h (mend_eight short format fits h)
      fitted short format fits (no h) =
          let room : length (mended_text s) ≤ rooms.out = omega arith in
          handed short format fits room (mend_all short format fits room)

      read_log : (short : length s ≤ R.longest_log) (format : FollowsTheFormat R (mended_text s)) → Dec (rooms.kinds < length (changes s)) → Dec (rooms.lines < length (changes s)) → Outcome
      read_log short format (yes h) k = list_too_long short format (inl h) (mend_ten short format (inl h))
      read_log short format (no h) (yes k) = list_too_long short format (inr k) (mend_ten short format (inr k))
      read_log short format (no h) (no k) =
          fitted short format (elim [ inl x ↦ h x | inr x ↦ k x ]) (dec_lt rooms.out (length (mended_text s)))

      reading : (short : length s ≤ R.longest_log) (a : Reading) → read R (mended_text s) ≡ a → Outcome
      reading short (accepted log) e =
          read_log short (log, (accepted_when_written R (mended_text s) log).0 e) (dec_lt rooms.kinds (length (changes s))) (dec_lt rooms.lines (length (changes s)))
      reading short (refused r) e = unread r short e (mend_refused short r e)

      by : Dec (R.longest_log < length s) → Outcome
      by (yes h) = too_long h (mend_long h)
      by (no h) = reading (omega arith) (read R (mended_text s)) refl

  -- # Which number is told

  same_told : {q r : Refusal} → mend R rooms s ≡ unmended q → mend R rooms s ≡ unmended r → q ≡ r
  same_told {q} {r} e g = cc

  same_number : {q r : Refusal} → mend R rooms s ≡ unmended q → mend R rooms s ≡ unmended r → q.number ≡ r.number
  same_number e g = ap (λ (x : Refusal). x.number) (same_told e g)

  -- The mended log was handed over, so nothing is refused.
  not_refused : {A : Type 0} {r : Refusal} {t : Text} {cs : List Change} → mend R rooms s ≡ mended t cs → mend R rooms s ≡ unmended r → A
  not_refused e g = no_text (sym g ∙ e)

  -- No line and no field is told with a number of the mender's own.
  no_places : {number n f : ℕ} → mend R rooms s ≡ unmended (refusal number 0 0) → mend R rooms s ≡ unmended (refusal number n f) → (n ≡ 0) × (f ≡ 0)
  no_places e g =
      let q = same_told g e in
      (ap (λ (r : Refusal). r.line) q, ap (λ (r : Refusal). r.field) q)

  one_when : (n f : ℕ) → (mend R rooms s ≡ unmended (refusal 1 n f)) ↔ ((n ≡ 0) × (f ≡ 0) × ((R.longest_log < length s) ⊎ (R.longest_log < length (mended_text s))))
  one_when n f = (λ e. by outcome e, λ p. let (k, z, h) = p in over_limit h (dec_lt R.longest_log (length s)) ∙ cc)
    where
      over_limit : (R.longest_log < length s) ⊎ (R.longest_log < length (mended_text s)) → Dec (R.longest_log < length s) → mend R rooms s ≡ unmended (refusal 1 0 0)
      over_limit h (yes k) = mend_long k
      over_limit (inl h) (no k) = mend_long h
      over_limit (inr h) (no k) =
          mend_refused (omega arith) (refusal 1 0 0) (((given_by_reading R).one (mended_text s) 0 0).1 (refl, refl, h))

      by : Outcome → mend R rooms s ≡ unmended (refusal 1 n f) → (n ≡ 0) × (f ≡ 0) × ((R.longest_log < length s) ⊎ (R.longest_log < length (mended_text s)))
      by (too_long h g) e = let p = no_places g e in (p.0, p.1, inl h)
      by (unread r short h g) e =
          let (k, z, over) = ((given_by_reading R).one (mended_text s) n f).0 (h ∙ ap refused (same_told g e)) in
          (k, z, inr over)
      by (list_too_long short format h g) e = absurd (omega (arith, same_number g e))
      by (text_too_long short format fits h g) e = absurd (omega (arith, same_number g e))
      by (handed short format fits h g) e = not_refused g e

  ten_when : (n f : ℕ) → (mend R rooms s ≡ unmended (refusal 10 n f)) ↔ ((n ≡ 0) × (f ≡ 0) × (length s ≤ R.longest_log) × FollowsTheFormat R (mended_text s) × ListIsTooLong rooms s)
  ten_when n f = (λ e. by outcome e, λ p. let (k, z, short, format, h) = p in mend_ten short format h ∙ cc)
    where
      by : Outcome → mend R rooms s ≡ unmended (refusal 10 n f) → (n ≡ 0) × (f ≡ 0) × (length s ≤ R.longest_log) × FollowsTheFormat R (mended_text s) × ListIsTooLong rooms s
      by (too_long h g) e = absurd (omega (arith, same_number g e))
      by (unread r short h g) e = absurd (omega (arith, same_number g e, (numbered R (mended_text s) r h).1))
      by (list_too_long short format h g) e = let p = no_places g e in (p.0, p.1, short, format, h)
      by (text_too_long short format fits h g) e = absurd (omega (arith, same_number g e))
      by (handed short format fits h g) e = not_refused g e

  eight_when : (n f : ℕ) → (mend R rooms s ≡ unmended (refusal 8 n f)) ↔ ((n ≡ 0) × (f ≡ 0) × (length s ≤ R.longest_log) × FollowsTheFormat R (mended_text s) × (ListIsTooLong rooms s → ⊥) × (rooms.out < length (mended_text s)))
  eight_when n f = (λ e. by outcome e, λ p. let (k, z, short, format, fits, h) = p in mend_eight short format fits h ∙ cc)
    where
      by : Outcome → mend R rooms s ≡ unmended (refusal 8 n f) → (n ≡ 0) × (f ≡ 0) × (length s ≤ R.longest_log) × FollowsTheFormat R (mended_text s) × (ListIsTooLong rooms s → ⊥) × (rooms.out < length (mended_text s))
      by (too_long h g) e = absurd (omega (arith, same_number g e))
      by (unread r short h g) e = absurd (omega (arith, same_number g e, (numbered R (mended_text s) r h).1))
      by (list_too_long short format h g) e = absurd (omega (arith, same_number g e))
      by (text_too_long short format fits h g) e = let p = no_places g e in (p.0, p.1, short, format, fits, h)
      by (handed short format fits h g) e = not_refused g e

  -- What is told of an answer.
  told : {a : Mending} → mend R rooms s ≡ a → (refusal_of_mending (mend R rooms s)).number ≡ (refusal_of_mending a).number
  told e = ap (λ (a : Mending). (refusal_of_mending a).number) e

  zero_when : ((refusal_of_mending (mend R rooms s)).number ≡ 0) ↔ ((length s ≤ R.longest_log) × FollowsTheFormat R (mended_text s) × (ListIsTooLong rooms s → ⊥) × (length (mended_text s) ≤ rooms.out))
  unfolding refusal_of_mending no_refusal
  zero_when = (λ e. by outcome e, λ p. let (short, format, fits, h) = p in told (mend_all short format fits h))
    where
      by : Outcome → (refusal_of_mending (mend R rooms s)).number ≡ 0 → (length s ≤ R.longest_log) × FollowsTheFormat R (mended_text s) × (ListIsTooLong rooms s → ⊥) × (length (mended_text s) ≤ rooms.out)
      by (too_long h g) e = absurd (omega (arith, told g))
      by (unread r short h g) e = absurd (omega (arith, told g, (numbered R (mended_text s) r h).0))
      by (list_too_long short format h g) e = absurd (omega (arith, told g))
      by (text_too_long short format fits h g) e = absurd (omega (arith, told g))
      by (handed short format fits h g) e = (short, format, fits, h)

  what_is_handed : (t : Text) (cs : List Change) → mend R rooms s ≡ mended t cs → (t ≡ mended_text s) × (cs ≡ changes s)
  what_is_handed t cs e = by outcome
    where
      by : Outcome → (t ≡ mended_text s) × (cs ≡ changes s)
      by (too_long h g) = no_text (sym g ∙ e)
      by (unread r short h g) = no_text (sym g ∙ e)
      by (list_too_long short format h g) = no_text (sym g ∙ e)
      by (text_too_long short format fits h g) = no_text (sym g ∙ e)
      by (handed short format fits h g) = (cc, cc)

  rightly_placed : LineAndField (refusal_of_mending (mend R rooms s))
  unfolding refusal_of_mending no_refusal
  rightly_placed = by outcome
    where
      by : Outcome → LineAndField (refusal_of_mending (mend R rooms s))
      by (too_long h g) = rw g (no_place 1 (inl (omega arith)))
      by (unread r short h g) = rw g (placed R (mended_text s) r h)
      by (list_too_long short format h g) = rw g (no_place 10 (inr (omega arith)))
      by (text_too_long short format fits h g) = rw g (no_place 8 (inr (omega arith)))
      by (handed short format fits h g) = rw g (no_place 0 (inl (omega arith)))

-- # All of it

pub given_by_mending : (R : Rules) (s : Text) (rooms : Rooms) → GivenByMending R s rooms
given_by_mending R s rooms =
    record {
      one = one_when R rooms s;
      reading = λ r short e. mend_refused R rooms s short r e;
      ten = ten_when R rooms s;
      eight = eight_when R rooms s;
      zero = zero_when R rooms s;
      handed = what_is_handed R rooms s;
      line_and_field = rightly_placed R rooms s;
    }

pub handed_is_accepted : (R : Rules) → HandedOverIsAccepted R
handed_is_accepted R s t rooms cs e = by (outcome R rooms s)
  where
    by : Outcome R rooms s → FollowsTheFormat R t
    by (too_long h g) = no_text (sym g ∙ e)
    by (unread r short h g) = no_text (sym g ∙ e)
    by (list_too_long short format h g) = no_text (sym g ∙ e)
    by (text_too_long short format fits h g) = no_text (sym g ∙ e)
    by (handed short format fits h g) =
        let is : mended_text s ≡ t = cc in
        subst (λ (u : Text). FollowsTheFormat R u) is format

pub refused_mending : (R : Rules) (s : Text) (rooms : Rooms) (r : Refusal) → mend R rooms s ≡ unmended r → RefusedMendingChangesNothing R s rooms
unfolding bytes_of_mending kinds_of_mending lines_of_mending over
refused_mending R s rooms r e =
    record {
      no_byte = rw e;
      no_kind = rw e;
      no_line = rw e;
      out = λ slice. rw e;
      kinds = λ slice. rw e;
      lines = λ slice. rw e;
    }
