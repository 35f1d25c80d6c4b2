-- Laws of a word that is a number as a whole, and of the record that it names.
-- Assumes nothing.
use Rattle.std.specs.Prelude.{Some, None}
use Prim.Native.Nat.{ℕ, suc, ◌+◌, ◌-◌, ◌≤◌, ◌<◌}
use native.Mathlib.Omega.{arith}
use mathlib.Core.Bool.{Bool, true, false, cond, ◌&&◌}
use mathlib.Core.List.{[], ◌∷◌}
use mathlib.Core.Logic.{◌⊎◌, inl, inr}
use mathlib.Core.Path.{◌≡◌, refl, sym, ap, ◌∙◌}
use lib.Dec.{leb, eqb}
use lib.ListN.{length, take, drop, length-drop}
use lib.Seq.{take_all}
use borrow.Author.Tests.{ne_eqb, eq-eqb, le-leb, lt-leb, leb-true}
use Rattle.std.specs.Prelude.{None, Some}
use Rattle.rules.specs.Rules.{Rules}
use Rattle.rules.specs.Text.{Text, digit, all, span, value, number, number_from}
use Rattle.rules.proofs.NumberLaws.{number_digits}
use Rattle.rules.proofs.TextLaws.{span_short}
use Rattle.rules.proofs.Tests.{and_l, and_r, fails}
use Rattle.fields.specs.Field.{in_field}
use Rattle.fields.proofs.PartLaws.{whole_span}
use Rattle.figures.specs.Figure.{number_at}
use Rattle.figures.proofs.Picked.{number_picked, number_refused}
use Rattle.header.proofs.DueLaws.{argument_broken, argument_ends}
use Rattle.header.proofs.RuleLaws.{all_apart, number_kept}
use Rattle.reader.proofs.PlaceLaws.{text_by_end}
use Rattle.words.specs.Words.{undashed, first_in, last_in, record_number, number_named}

-- No semicolon is in a number.
from_apart : (least most : ℕ) (t : Text) → number_from least most t ≡ true → all in_field t ≡ true
unfolding number_from
from_apart least most t e =
    all_apart digit refl t
    (number_digits t (and_l (number t) (leb least (value t)) (and_l (number t && leb least (value t)) (leb (value t) most) e)))

-- What the reader answers at the front of a word tells of the word as a whole.
module _ (least most : ℕ) (t : Text) where
  pub whole_none : number_at (number_from least most) t 0 ≡ None → number_from least most t ≡ false
  whole_none p =
      sym (argument_broken (number_from least most) (from_apart least most) t (number_refused (number_from least most) t 0 p))

  module _ {v e : ℕ} (p : number_at (number_from least most) t 0 ≡ Some (v, e)) where
    ends : eqb e (length t) ≡ number_from least most t
    ends = argument_ends (number_from least most) (from_apart least most) t (number_kept (number_from least most) t 0 p)

    pub whole_more : (e ≡ length t → ⊥) → number_from least most t ≡ false
    whole_more n = sym ends ∙ ne_eqb e (length t) n

    pub whole_read : e ≡ length t → number_from least most t ≡ true
    whole_read h = sym ends ∙ eq-eqb e (length t) h

    pub whole_value : e ≡ length t → v ≡ value t
    whole_value h =
        let q = number_picked (number_from least most) t 0 p in
        q.1 ∙ ap value (text_by_end t 0 q.2 ∙ take_all (e - 0) t (omega arith))

-- The record that a text names, by what is known of it as a number from 0 on.
module _ (R : Rules) (room : ℕ) (t : Text) where
  from_nought : number_from 1 R.most_records t ≡ (number_from 0 R.most_records t && leb 1 (value t))
  unfolding number_from
  from_nought = rw (le-leb 0 (value t) (omega arith)) (by (number t) (leb 1 (value t)) (leb (value t) R.most_records))
    where
      by : (a b c : Bool) → (a && b && c) ≡ (a && true && c && b)
      by true true true = refl
      by true true false = refl
      by true false true = refl
      by true false false = refl
      by false b c = refl

  pub named_none : number_from 0 R.most_records t ≡ false → None ≡ number_named R room t
  unfolding number_named record_number
  named_none e = rw (from_nought, e)

  module _ (e : number_from 0 R.most_records t ≡ true) {v : ℕ} (q : v ≡ value t) where
    pub named_beyond : (v < 1) ⊎ (room < v) → None ≡ number_named R room t
    unfolding number_named record_number
    named_beyond (inl h) =
        let small : value t < 1 = omega arith in
        rw (from_nought, e, lt-leb 1 (value t) small)
    named_beyond (inr h) =
        let large : 1 ≤ value t = omega arith in
        let out : room < value t = omega arith in
        rw (from_nought, e, le-leb 1 (value t) large, lt-leb (value t) room out)

    pub named_within : 1 ≤ v → v ≤ room → Some v ≡ number_named R room t
    unfolding number_named record_number
    named_within l h =
        let large : 1 ≤ value t = omega arith in
        let fit : value t ≤ room = omega arith in
        rw (from_nought, e, le-leb 1 (value t) large, le-leb (value t) room fit) (ap Some q)

-- A text that names a record, by what was answered of it.
module _ (R : Rules) (room : ℕ) (t : Text) where
  -- Its number is from 1 to the room, and is the answer.
  pub number_least : record_number R room t ≡ true → 1 ≤ value t
  unfolding record_number number_from
  number_least e =
      let from = and_l (number_from 1 R.most_records t) (leb (value t) room) e in
      let least = and_l (number t && leb 1 (value t)) (leb (value t) R.most_records) from in
      leb-true 1 (value t) (and_r (number t) (leb 1 (value t)) least)

  pub number_most : record_number R room t ≡ true → value t ≤ room
  unfolding record_number
  number_most e = leb-true (value t) room (and_r (number_from 1 R.most_records t) (leb (value t) room) e)

  pub number_told : {n : ℕ} → Some n ≡ number_named R room t → (record_number R room t ≡ true) × (n ≡ value t)
  unfolding number_named
  number_told {n} h = by (record_number R room t) h
    where
      by : (b : Bool) → Some n ≡ cond b (Some (value t)) None → (b ≡ true) × (n ≡ value t)
      by true k = (refl, cc)
      by false k = let z : ◌≡◌ {A = ℕ} 0 1 = cc in absurd (omega arith)

  pub number_none : None ≡ number_named R room t → record_number R room t ≡ true → ⊥
  unfolding number_named
  number_none h e =
      let k : None ≡ Some (value t) = h ∙ rw e in
      let z : ◌≡◌ {A = ℕ} 0 1 = cc in
      omega arith

-- A word has a dash where the run up to it ends within the word.
no_dash : (s : Text) → length s ≤ span undashed s → all undashed s ≡ true
unfolding span all
no_dash [] l = refl
no_dash (c ∷ s) l = by (undashed c) (no_dash s) l
  where
    by : (b : Bool) → (length s ≤ span undashed s → all undashed s ≡ true) → suc (length s) ≤ cond b (suc (span undashed s)) 0
        → (b && all undashed s) ≡ true
    by true more k = more (omega arith)
    by false more k = absurd (omega arith)

-- The two texts of a word by the place of its first dash.
module _ (word : Text) {e : ℕ} (h : e ≡ 0 + span undashed (drop 0 word)) where
  pub dash_within : e ≤ length word
  dash_within = omega (arith, span_short undashed word)

  place : e ≡ span undashed word
  place = omega arith

  pub first_text : take e word ≡ first_in word
  unfolding first_in
  first_text = ap (λ (n : ℕ). take n word) place

  pub last_same : length word ≤ e → word ≡ last_in word
  unfolding last_in
  last_same l = rw (no_dash word (omega (arith, place)))

  pub last_behind : e < length word → take (length word - (e + 1)) (drop (e + 1) word) ≡ last_in word
  unfolding last_in
  last_behind l =
      let dashed : all undashed word ≡ false = fails (all undashed word) (λ a. omega (arith, place, whole_span undashed word a)) in
      let rest : length (drop (e + 1) word) ≤ length word - (e + 1) = omega (arith, length-drop (e + 1) word) in
      rw dashed (take_all (length word - (e + 1)) (drop (e + 1) word) rest ∙ ap (λ (n : ℕ). drop (n + 1) word) place)
