-- Laws of the judging step: where the bytes of a record lie, what is asked of them, and what is then kept.
-- Assumes nothing.
use Prim.Native.Nat.{ℕ, suc, ◌+◌, ◌-◌, ◌*◌, ◌/◌, ◌%◌, ◌≤◌, ◌<◌, min}
use native.Mathlib.Omega.{arith}
use native.Mathlib.Nat.{mul-le-mul_right, add-mul, div-mul-le_self, zero-add}
use mathlib.Core.Path.{◌≡◌, refl, sym, ap, ap₂, ◌∙◌}
use mathlib.Core.Bool.{Bool, true, false, cond, not, ◌&&◌, and-true}
use mathlib.Core.List.{List, [], ◌∷◌, ◌++◌, append_assoc}
use lib.Dec.{eqb, leb, ltb}
use lib.ListN.{length, take, drop, get_or, set, replicate, length-take, length-drop, length-append, length-replicate, replicate-append-replicate}
use lib.Seq.{take_all, take_at, take-take, drop_at, drop-drop}
use borrow.Author.Tests.{leb-true, leb-false, ltb-true, ltb-false, le-leb, lt-leb, le-ltb, lt-ltb, eq-eqb, ne_eqb, not-true}
use Rattle.std.specs.Prelude.{Result, Ok, Err}
use Rattle.rules.specs.declared.Class.{Class}
use Rattle.rules.specs.declared.Class.TheVariants.{Credited, Void, Duplicate, Error}
use Rattle.rules.specs.declared.Fault.{Fault}
use Rattle.rules.specs.declared.Verdict.{Verdict}
use Rattle.rules.specs.Text.{Text, allowed, semicolon, all, empty, value}
use Rattle.rules.specs.Rules.{Rules, base}
use Rattle.rules.specs.Fields.{Qso, is_error, field_rules, fields_of}
use Rattle.rules.specs.Log.{conjunction}
use Rattle.rules.specs.Judging.{class_number, is, claims_points, claims_duplicate, may_repeat, square, exchange_of, claims_country, verdict_number}
use Rattle.rules.specs.Reading.{fault, RecordRule, keeps, breaks, record_rule}
use Rattle.rules.proofs.Tests.{and_l, and_r, clash}
use Rattle.rules.proofs.FieldLaws.{field_character, Fits, fields_fit}
use Rattle.reader.specs.declared.Contact.{Contact}
use Rattle.reader.specs.Contact.{between, Describes}
use Rattle.reader.specs.Record.{Alone, record_on}
use Rattle.reader.proofs.LineHeld.{stops_number, stops_rule}
use Rattle.judge.specs.Said.{class_by, verdict_by}
use Rattle.session.specs.declared.KeptLine.{KeptLine}
use Rattle.writer.specs.Written.{written, has_room}
use Rattle.session.specs.Entry.{filled, worked_part, points_part, entry_of, kept_of, mode_byte, held_in, class_kept, new_in, verdict_kept, record_of, keeps_rules, has_place_for, is_kept, said_of, told_line, not_taken, line_kept, verdicts_kept, with_bytes, bytes_kept, Stepping}
use Rattle.session.proofs.FilledLaws.{length_filled, base_fits_bytes}
use Rattle.session.proofs.EntryLaws.{home_part, home_there_lem, home_lies, square_part, square_lies, exchange_part, exchange_lies, length_entry}

-- # A place for one record more

module _ (n width verdicts kept : ℕ) where
  pub place_narrow : width < 24 → false ≡ has_place_for n width verdicts kept
  unfolding has_place_for conjunction
  place_narrow h = rw (lt-leb 24 width h)

  pub place_wide : 24 ≤ width → 28 < width → false ≡ has_place_for n width verdicts kept
  unfolding has_place_for conjunction
  place_wide h k = rw (le-leb 24 width h, lt-leb width 28 k)

  pub place_full : 24 ≤ width → width ≤ 28 → verdicts ≤ n → false ≡ has_place_for n width verdicts kept
  unfolding has_place_for conjunction
  place_full h k l = rw (le-leb 24 width h, le-leb width 28 k, le-ltb n verdicts l)

  pub place_asked : 24 ≤ width → width ≤ 28 → n < verdicts → ltb n (kept / width) ≡ has_place_for n width verdicts kept
  unfolding has_place_for conjunction
  place_asked h k l = rw (le-leb 24 width h, le-leb width 28 k, lt-ltb n verdicts l) (sym (and-true (ltb n (kept / width))))

  -- What there is then.
  pub record PlaceFor : Type 0 where
    pub wide : 24 ≤ width
    pub narrow : width ≤ 28
    pub verdict : n < verdicts
    pub bytes : n * width + width ≤ kept

  pub place_for : has_place_for n width verdicts kept ≡ true → PlaceFor
  unfolding has_place_for conjunction
  place_for e =
      let a = leb 24 width in
      let b = leb width 28 in
      let c = ltb n verdicts in
      let d = ltb n (kept / width) in
      let e1 = and_r a (b && (c && (d && true))) e in
      let e2 = and_r b (c && (d && true)) e1 in
      let e3 = and_r c (d && true) e2 in
      let next : n + 1 ≤ kept / width = omega (arith, ltb-true n (kept / width) (and_l d true e3)) in
      record {
        wide = leb-true 24 width (and_l a (b && (c && (d && true))) e);
        narrow = leb-true width 28 (and_l b (c && (d && true)) e1);
        verdict = ltb-true n verdicts (and_l c (d && true) e2);
        bytes = omega (arith, mul-le-mul_right width next, add-mul n 1 width, div-mul-le_self kept width);
      }

-- # A part that is new

pub new_asked : (long : ℕ) (held r : Bool) → (long ≡ 0 → ⊥) → r ≡ held → not r ≡ (not (eqb long 0) && not held)
new_asked long held r f e = rw (ne_eqb long 0 f, e)

empty_long : (t : Text) → eqb (length t) 0 ≡ empty t
empty_long [] = refl
empty_long (c ∷ t) = ne_eqb (length (c ∷ t)) 0 (λ z. omega arith)

-- # What is said

unmarked : (k : Class) → is Credited k ≡ false → (a b d : Bool) → verdict_by k false false false ≡ verdict_by k a b d
unfolding verdict_by
unmarked k e a b d = rw e

-- A part of a text is as long as its ends are apart.
between_long : (l : Text) (a e : ℕ) → a ≤ e → e ≤ length l → length (between l a e) ≡ e - a
between_long l a e h k = omega (arith, length-take (e - a) (drop a l), length-drop a l)

module _ (l : Text) (c : Contact) (on : Alone base l c) where
  ruled : conjunction (field_rules base (record_of l)) ≡ true
  unfolding record_of
  ruled = on.rules

  tells : Describes l c (record_of l)
  unfolding record_of
  tells = on.describes

  -- The call is there, and in 14 bytes.
  pub call_long : (1 ≤ c.callend - c.call) × (c.callend - c.call ≤ 14)
  unfolding base
  call_long =
      let q = record_of l in
      let long : length q.call ≡ c.callend - c.call =
      ap length (sym tells.call_is) ∙ between_long l c.call c.callend on.call (omega (arith, on.call_inside)) in
      (there q.call long (home_there_lem base_fits_bytes q ruled), omega (arith, long, (home_part base_fits_bytes q ruled).short))
    where
      there : (t : Text) → length t ≡ c.callend - c.call → empty t ≡ false → 1 ≤ c.callend - c.call
      there [] e h = clash refl h
      there (d ∷ t) e h = omega arith

module _ (l : Text) (c : Contact) (entry kept : List ℕ) (width n : ℕ) (s : Stepping base l c entry kept width n) where
  abbrev q : Qso
  q = record_of l

  rules : conjunction (field_rules base q) ≡ true
  rules = ruled l c s.alone

  described : Describes l c q
  described = tells l c s.alone

  -- The call is looked for as the definition says.
  call_sought : held_in kept width n 0 (take 14 (drop 0 entry)) ≡ held_in kept width n 0 (filled 14 (base.home q.call))
  call_sought = ap (held_in kept width n 0) (ap (λ (t : Text). take 14 (drop 0 t)) s.bytes ∙ home_lies base_fits_bytes q rules)

  points_claimed : 0 < c.worth → claims_points q ≡ true
  unfolding claims_points
  points_claimed h = rw (ne_eqb (value q.points) 0 (λ z. omega (arith, described.worth_is)))

  points_none : c.worth ≤ 0 → claims_points q ≡ false
  unfolding claims_points
  points_none h = let z : value q.points ≡ 0 = omega (arith, described.worth_is) in rw (eq-eqb (value q.points) 0 z)

  duplicate_claimed : eqb (get_or l (length l - 1) 0) 68 ≡ claims_duplicate q
  unfolding record_of
  duplicate_claimed = s.alone.last_claims

  -- By what is found, in the order of the code.
  pub class_error : {r : Class} → c.error ≡ true → r ≡ class_by true false false → r ≡ class_kept base kept width n q
  unfolding class_kept class_by
  class_error e h = h ∙ rw (sym described.error_is ∙ e)

  module _ (plain : c.error ≡ false) where
    no_error : is_error q ≡ false
    no_error = sym described.error_is ∙ plain

    -- The call is looked for where there are points, or a claimed D.
    pub asked_points : 0 < c.worth → ltb 0 c.worth ≡ may_repeat q
    unfolding may_repeat
    asked_points w = rw (points_claimed w) (lt-ltb 0 c.worth w)

    pub asked_marked : {d : Bool} → c.worth ≤ 0 → d ≡ eqb (get_or l (length l - 1) 0) 68 → d ≡ may_repeat q
    unfolding may_repeat
    asked_marked w e = rw (points_none w) (e ∙ duplicate_claimed)

    points_told : ltb 0 c.worth ≡ claims_points q
    points_told = by (ltb 0 c.worth) refl
      where
        by : (b : Bool) → ltb 0 c.worth ≡ b → b ≡ claims_points q
        by true e = sym (points_claimed (ltb-true 0 c.worth e))
        by false e = sym (points_none (ltb-false 0 c.worth e))

    pub class_told : {r : Class} {repeats : Bool} → repeats ≡ (may_repeat q && held_in kept width n 0 (take 14 (drop 0 entry))) → r ≡ class_by false repeats (ltb 0 c.worth) → r ≡ class_kept base kept width n q
    unfolding class_kept
    class_told e h =
        h
        ∙ rw no_error (ap₂ (λ (b d : Bool). class_by false b d) (e ∙ ap (λ (b : Bool). may_repeat q && b) call_sought) points_told)

  -- # The verdict

  exchange_long : length q.exchange ≡ c.exchangeend - c.exchange
  exchange_long =
      ap length (sym described.exchange_is)
      ∙ between_long l c.exchange c.exchangeend s.alone.exchange s.alone.exchange_inside

  pub exchange_short_lem : c.exchangeend - c.exchange ≤ 6
  exchange_short_lem = omega (arith, exchange_long, (exchange_part base_fits_bytes q rules).short)

  square_long : length (square q) ≡ min 4 (c.locatorend - c.locator)
  unfolding square
  square_long =
      length-take 4 q.locator
      ∙ ap (λ (t : Text). min 4 (length t)) (sym described.locator_is)
      ∙ ap (min 4) (between_long l c.locator c.locatorend s.alone.locator s.alone.locator_inside)

  -- What the code asks of a part, and what the definition does.
  part_new : (at size long : ℕ) (t : Text) → length t ≡ long → take size (drop at entry) ≡ filled size t → (not (eqb long 0) && not (held_in kept width n at (take size (drop at entry)))) ≡ new_in kept width n at size t
  unfolding new_in
  part_new at size long t e f =
      let none : eqb long 0 ≡ empty t = ap (λ (m : ℕ). eqb m 0) (sym e) ∙ empty_long t in
      λ i. not (none i) && not (held_in kept width n at (f i))

  exchange_new : (not (eqb (c.exchangeend - c.exchange) 0) && not (held_in kept width n 18 (take 6 (drop 18 entry)))) ≡ new_in kept width n 18 6 (exchange_of base q)
  exchange_new =
      part_new 18 6 (c.exchangeend - c.exchange) (exchange_of base q) exchange_long
      (ap (λ (t : Text). take 6 (drop 18 t)) s.bytes ∙ exchange_lies base_fits_bytes q rules)

  square_new : (long : ℕ) → long ≡ min 4 (c.locatorend - c.locator) → (not (eqb long 0) && not (held_in kept width n 14 (take 4 (drop 14 entry)))) ≡ new_in kept width n 14 4 (square q)
  square_new long e =
      part_new 14 4 long (square q) (square_long ∙ sym e)
      (ap (λ (t : Text). take 4 (drop 14 t)) s.bytes ∙ square_lies base_fits_bytes q rules)

  module _ {class : Class} {v : Verdict} (told : class ≡ class_kept base kept width n q) where
    pub verdict_credited : {new new_square : Bool} (long : ℕ) → class ≡ Credited → new ≡ (not (eqb (c.exchangeend - c.exchange) 0) && not (held_in kept width n 18 (take 6 (drop 18 entry)))) → long ≡ min 4 (c.locatorend - c.locator) → new_square ≡ (not (eqb long 0) && not (held_in kept width n 14 (take 4 (drop 14 entry)))) → v ≡ verdict_by Credited new new_square c.country → v ≡ verdict_kept base kept width n q
    unfolding verdict_kept
    verdict_credited long known e z f h =
        h ∙ (λ i. verdict_by ((sym known ∙ told) i) ((e ∙ exchange_new) i) ((f ∙ square_new long z) i) (described.country_is i))

    pub verdict_other : (k : Class) → is Credited k ≡ false → class ≡ k → v ≡ verdict_by k false false false → v ≡ verdict_kept base kept width n q
    unfolding verdict_kept
    verdict_other k other known h =
        h
        ∙ unmarked k other (new_in kept width n 18 6 (exchange_of base q)) (new_in kept width n 14 4 (square q)) (claims_country q)
        ∙ ap (λ (x : Class). verdict_by x (new_in kept width n 18 6 (exchange_of base q)) (new_in kept width n 14 4 (square q)) (claims_country q)) (sym known ∙ told)

-- # A line

module _ (R : Rules) (l : Text) (n width : ℕ) (verdicts kept : List ℕ) where
  -- This is told, and the slices are then these, as the definition says.
  abbrev Keeps : Result KeptLine Fault → List ℕ → List ℕ → Type 0
  Keeps r vs ks =
      (r ≡ line_kept R l n width verdicts kept)
      × ((vs ≡ verdicts_kept R l n width verdicts kept) × (ks ≡ bytes_kept R l n width verdicts kept))

  abbrev placed : Bool
  placed = has_place_for n width (length verdicts) (length kept)

  kept_by : {rule : RecordRule} → record_rule R l ≡ rule → is_kept R l n width verdicts kept ≡ (keeps_rules rule && placed)
  unfolding is_kept
  kept_by e = ap (λ (r : RecordRule). keeps_rules r && placed) e

  not_kept : {rule : RecordRule} {r : Result KeptLine Fault} → record_rule R l ≡ rule → (keeps_rules rule && placed) ≡ false → r ≡ Err (not_taken rule) → Keeps r verdicts kept
  unfolding line_kept verdicts_kept bytes_kept
  not_kept {rule} e f h =
      let none : is_kept R l n width verdicts kept ≡ false = kept_by e ∙ f in
      (h ∙ rw (none, e), (rw none, rw none))

  -- A line that is no record; a record for which there is no place; and one for which there is.
  pub keeps_broken : {field : ℕ} {r : Result KeptLine Fault} → record_rule R l ≡ breaks field → r ≡ Err (fault 5 field) → Keeps r verdicts kept
  unfolding not_taken
  keeps_broken e h = not_kept e refl h

  pub keeps_stopped : {e : Fault} {r : Result KeptLine Fault} → record_on R l ≡ Err e → r ≡ Err e → Keeps r verdicts kept
  keeps_stopped {e} stops h = keeps_broken (stops_rule R l stops) (h ∙ ap (λ (k : ℕ). Err (fault k e.field)) (stops_number R l stops))

  pub keeps_full : {r : Result KeptLine Fault} → record_rule R l ≡ keeps → placed ≡ false → r ≡ Err (fault 11 0) → Keeps r verdicts kept
  unfolding not_taken
  keeps_full e f h = not_kept e f h

  pub keeps_one : {r : KeptLine} {vs ks : List ℕ} → record_rule R l ≡ keeps → placed ≡ true → (r ≡ told_line R l n width kept) × ((vs ≡ set verdicts n (verdict_number (said_of R l n width kept))) × (ks ≡ with_bytes R l n width kept)) → Keeps (Ok r) vs ks
  unfolding line_kept verdicts_kept bytes_kept
  keeps_one e t h =
      let one : is_kept R l n width verdicts kept ≡ true = kept_by e ∙ t in
      (ap (λ (x : KeptLine). Ok x) h.0 ∙ rw one, (h.1.0 ∙ rw one, h.1.1 ∙ rw one))

-- # The bytes of a record

set_behind : (pre rest : List ℕ) (n j a : ℕ) → length pre ≡ n → set (pre ++ rest) (n + j) a ≡ pre ++ set rest j a
set_behind pre rest n j a e = ap (λ (m : ℕ). set (pre ++ rest) (m + j) a) (sym e) ∙ by pre
  where
    by : (p : List ℕ) → set (p ++ rest) (length p + j) a ≡ p ++ set rest j a
    by [] = rw (zero-add j)
    by (c ∷ p) = let z : suc (length p) + j ≡ suc (length p + j) = omega arith in rw z (ap {B = List ℕ} (λ t. c ∷ t) (by p))

-- What a slice is after a text was to be laid over it from a place on.
abbrev pub laid : List ℕ → ℕ → Text → List ℕ
laid d at t = cond (has_room d at t) (written d at t) d

laid_inside : (d : List ℕ) (at : ℕ) (t : Text) → at + length t ≤ length d → laid d at t ≡ written d at t
laid_inside d at t h = rw (le-leb (at + length t) (length d) h)

-- A text that is laid behind others over zero bytes is filled with zero bytes.
abbrev zeros : ℕ → Text
zeros n = replicate n 0

laid_behind : (pre t : Text) (at size rest : ℕ) → length pre ≡ at → length t ≤ size → laid (pre ++ zeros (size + rest)) at t ≡ (pre ++ filled size t) ++ zeros rest
unfolding written filled
laid_behind pre t at size rest e h =
    let here = zeros (size + rest) in
    let gap = size - length t in
    let all : size + rest ≡ length t + (gap + rest) = omega arith in
    let front : take at (pre ++ here) ≡ pre = take_at pre here at e in
    let behind : drop (at + length t) (pre ++ here) ≡ zeros gap ++ zeros rest =
    sym (drop-drop (length t) at (pre ++ here))
    ∙ ap (drop (length t)) (drop_at pre here at e)
    ∙ ap (λ (m : ℕ). drop (length t) (zeros m)) all
    ∙ ap (drop (length t)) (sym (replicate-append-replicate (length t) (gap + rest) 0))
    ∙ drop_at (zeros (length t)) (zeros (gap + rest)) (length t) (length-replicate {A = ℕ} (length t) 0)
    ∙ sym (replicate-append-replicate gap rest 0) in
    laid_inside (pre ++ here) at t (omega (arith, length-append pre here, length-replicate {A = ℕ} (size + rest) 0))
    ∙ (λ i. (front i ++ t) ++ behind i)
    ∙ simp append_assoc

take_less : (m n : ℕ) (t : Text) → take (min m n) t ≡ take m (take n t)
take_less m n t = by (leb m n) refl
  where
    by : (b : Bool) → leb m n ≡ b → take (min m n) t ≡ take m (take n t)
    by true e =
        let h : m ≤ n = leb-true m n e in
        let z : min m n ≡ m = omega arith in
        ap (λ (k : ℕ). take k t) z ∙ sym (take-take m n t h)
    by false e =
        let h : n < m = leb-false m n e in
        let z : min m n ≡ n = omega arith in
        ap (λ (k : ℕ). take k t) z ∙ sym (take_all m (take n t) (omega (arith, length-take n t)))

module _ (l : Text) (c : Contact) (on : Alone base l c) where
  abbrev taken : Qso
  taken = record_of l

  keeps_rules_lem : conjunction (field_rules base taken) ≡ true
  keeps_rules_lem = ruled l c on

  is_told : Describes l c taken
  is_told = tells l c on

  mode_fits : Fits 1 taken.mode
  unfolding fields_of
  mode_fits = (fields_fit base taken keeps_rules_lem).1.1.1.0

  call_short_lem : length taken.call ≤ 14
  unfolding base
  call_short_lem = (home_part base_fits_bytes taken keeps_rules_lem).short

  square_short : length (square taken) ≤ 4
  square_short = (square_part base_fits_bytes taken keeps_rules_lem).short

  received_short : length taken.exchange ≤ 6
  received_short = (exchange_part base_fits_bytes taken keeps_rules_lem).short

  -- The byte of the mode is its character, or zero.
  pub mode_told_lem : {m : ℕ} → m ≡ mode_byte (get_or l (c.callend + 1) 0) → m ≡ get_or taken.mode 0 0
  unfolding record_of all
  mode_told_lem e = e ∙ ap mode_byte on.mode_begins ∙ by taken.mode mode_fits.clean
    where
      by : (t : Text) → all field_character t ≡ true → mode_byte (get_or t 0 semicolon) ≡ get_or t 0 0
      by [] h = refl
      by (d ∷ t) h =
          let plain : not (eqb d semicolon) ≡ true = and_r (allowed d) (not (eqb d semicolon)) (and_l (field_character d) (all field_character t) h) in
          rw (not-true (eqb d semicolon) plain)

  mode_filled : filled 1 taken.mode ≡ get_or taken.mode 0 0 ∷ []
  unfolding filled
  mode_filled = by taken.mode mode_fits.short
    where
      by : (t : Text) → length t ≤ 1 → t ++ replicate (1 - length t) 0 ≡ get_or t 0 0 ∷ []
      by [] h = refl
      by (d ∷ []) h = refl
      by (d ∷ e ∷ t) h = absurd (omega arith)

  square_is : (r : ℕ) → r ≡ min 4 (c.locatorend - c.locator) → take (c.locator + r - c.locator) (drop c.locator l) ≡ square taken
  unfolding square
  square_is r e =
      let long : c.locator + r - c.locator ≡ min 4 (c.locatorend - c.locator) = omega arith in
      ap (λ (m : ℕ). take m (drop c.locator l)) long
      ∙ take_less 4 (c.locatorend - c.locator) (drop c.locator l)
      ∙ ap (take 4) is_told.locator_is

  -- The three texts, one behind the other.
  pub worked_told : {a b x : List ℕ} {r : ℕ} → r ≡ min 4 (c.locatorend - c.locator) → a ≡ laid (zeros 28) 0 (between l c.call c.callend) → b ≡ laid a 14 (take (c.locator + r - c.locator) (drop c.locator l)) → x ≡ laid b 18 (between l c.exchange c.exchangeend) → x ≡ worked_part base taken ++ zeros 4
  unfolding worked_part base
  worked_told {a} {b} {x} {r} e f g h =
      let one = filled 14 taken.call in
      let two = one ++ filled 4 (square taken) in
      let long1 : length one ≡ 14 = length_filled 14 taken.call call_short_lem in
      let long2 : length two ≡ 18 = omega (arith, length-append one (filled 4 (square taken)), long1, length_filled 4 (square taken) square_short) in
      let first : a ≡ one ++ zeros 14 =
      f ∙ ap (laid (zeros 28) 0) is_told.call_is ∙ laid_behind [] taken.call 0 14 14 refl call_short_lem in
      let second : b ≡ two ++ zeros 10 =
      g ∙ (λ i. laid (first i) 14 (square_is r e i)) ∙ laid_behind one (square taken) 14 4 10 long1 square_short in
      h ∙ (λ i. laid (second i) 18 (is_told.exchange_is i)) ∙ laid_behind two taken.exchange 18 6 4 long2 received_short

  worked_long : length (worked_part base taken) ≡ 24
  unfolding worked_part base
  worked_long =
      let call = filled 14 taken.call in
      let sq = filled 4 (square taken) in
      let received = filled 6 taken.exchange in
      omega (arith, length-append (call ++ sq) received, length-append call sq, length_filled 14 taken.call call_short_lem, length_filled 4 (square taken) square_short, length_filled 6 taken.exchange received_short)

  -- And behind them the points and the mode.
  pub entry_told : {x : List ℕ} {m : ℕ} → x ≡ worked_part base taken ++ zeros 4 → m ≡ mode_byte (get_or l (c.callend + 1) 0) → set (set (set (set x 24 (c.worth % 256)) 25 (c.worth / 256 % 256)) 26 (c.worth / 65536 % 256)) 27 m ≡ entry_of base taken
  unfolding entry_of points_part
  entry_told {x} {m} e f =
      let w = worked_part base taken in
      let n = c.worth in
      let p0 = n % 256 in
      let p1 = n / 256 % 256 in
      let p2 = n / 65536 % 256 in
      let at0 : set x 24 p0 ≡ w ++ (p0 ∷ 0 ∷ 0 ∷ 0 ∷ []) =
      ap (λ (t : Text). set t 24 p0) e ∙ set_behind w (zeros 4) 24 0 p0 worked_long in
      let at1 : set (set x 24 p0) 25 p1 ≡ w ++ (p0 ∷ p1 ∷ 0 ∷ 0 ∷ []) =
      ap (λ (t : Text). set t 25 p1) at0 ∙ set_behind w (p0 ∷ 0 ∷ 0 ∷ 0 ∷ []) 24 1 p1 worked_long in
      let at2 : set (set (set x 24 p0) 25 p1) 26 p2 ≡ w ++ (p0 ∷ p1 ∷ p2 ∷ 0 ∷ []) =
      ap (λ (t : Text). set t 26 p2) at1 ∙ set_behind w (p0 ∷ p1 ∷ 0 ∷ 0 ∷ []) 24 2 p2 worked_long in
      ap (λ (t : Text). set t 27 m) at2
      ∙ set_behind w (p0 ∷ p1 ∷ p2 ∷ 0 ∷ []) 24 3 m worked_long
      ∙ (λ i. w ++ (is_told.worth_is i % 256 ∷ is_told.worth_is i / 256 % 256 ∷ is_told.worth_is i / 65536 % 256 ∷ (ap {B = List ℕ} (λ k. k ∷ []) (mode_told_lem f) ∙ sym mode_filled) i))
      ∙ sym (append_assoc w (points_part (value taken.points)) (filled 1 taken.mode))

-- # A record for which there is a place

-- The number of a verdict tells whether the record is credited.
credited_number : (v : Verdict) → eqb (verdict_number v % 16) 0 ≡ is Credited v.class
unfolding verdict_number is
credited_number v =
    let class = class_number v.class in
    let rest : (class + cond v.exchange 16 0 + cond v.square 32 0 + cond v.country 64 0) % 16 ≡ class % 16 =
    omega (arith, sixteens v.exchange 1, sixteens v.square 2, sixteens v.country 4) in
    ap (λ (m : ℕ). eqb m 0) rest ∙ by v.class
  where
    sixteens : (b : Bool) (n : ℕ) → cond b (n * 16) 0 ≡ cond b n 0 * 16
    sixteens true n = refl
    sixteens false n = refl

    by : (k : Class) → eqb (class_number k % 16) 0 ≡ eqb 0 (class_number k)
    by Credited = refl
    by Void = refl
    by Duplicate = refl
    by Error = refl

module _ (l : Text) (c : Contact) (on : Alone base l c) (n width : ℕ) (verdicts kept : List ℕ) (there : has_place_for n width (length verdicts) (length kept) ≡ true) where
  place : PlaceFor n width (length verdicts) (length kept)
  place = place_for n width (length verdicts) (length kept) there

  module _ {entry : List ℕ} (told : entry ≡ entry_of base (record_of l)) where
    entry_long : length entry ≡ 28
    unfolding kept_of is
    entry_long = ap length told ∙ length_entry base_fits_bytes (record_of l) (ruled l c on) Credited

    pub stepping : Stepping base l c entry kept width n
    stepping =
        record {
          alone = on;
          bytes = told;
          long = entry_long;
          wide = place.wide;
          inside = omega (arith, place.bytes);
        }

    module _ {v : Verdict} {number : ℕ} {bytes : List ℕ} (said : v ≡ verdict_kept base kept width n (record_of l)) (numbered : number ≡ verdict_number v) (are : bytes ≡ cond (eqb (number % 16) 0) entry (replicate 28 0)) where
      abbrev told_by_lem : ℕ → KeptLine
      told_by_lem m = record { worth = c.worth; mode = m; number = number }

      bytes_told : bytes ≡ kept_of base (said_of base l n width kept).class (record_of l)
      unfolding kept_of said_of
      bytes_told =
          let credited : eqb (number % 16) 0 ≡ is Credited (verdict_kept base kept width n (record_of l)).class =
          ap (λ (m : ℕ). eqb (m % 16) 0) (numbered ∙ ap verdict_number said) ∙ credited_number (verdict_kept base kept width n (record_of l)) in
          are ∙ (λ i. cond (credited i) (told i) (replicate 28 0))

      pub bytes_long : length bytes ≡ 28
      bytes_long = ap length bytes_told ∙ length_entry base_fits_bytes (record_of l) (ruled l c on) (said_of base l n width kept).class

      bytes_written : {x : List ℕ} → x ≡ laid kept (n * width) (take width bytes) → x ≡ with_bytes base l n width kept
      unfolding with_bytes
      bytes_written e =
          e
          ∙ laid_inside kept (n * width) (take width bytes) (omega (arith, length-take width bytes, bytes_long, place.bytes))
          ∙ ap (λ (t : Text). written kept (n * width) (take width t)) bytes_told

      number_said : number ≡ verdict_number (said_of base l n width kept)
      unfolding said_of
      number_said = numbered ∙ ap verdict_number said

      line_told : {m : ℕ} → m ≡ mode_byte (get_or l (c.callend + 1) 0) → told_by_lem m ≡ told_line base l n width kept
      unfolding told_line
      line_told e = λ i. record { worth = (tells l c on).worth_is i; mode = mode_told_lem l c on e i; number = number_said i }

      -- What is told, and what is written.
      pub record_kept : {m : ℕ} {x : List ℕ} → m ≡ mode_byte (get_or l (c.callend + 1) 0) → x ≡ laid kept (n * width) (take width bytes) → (told_by_lem m ≡ told_line base l n width kept) × ((set verdicts n number ≡ set verdicts n (verdict_number (said_of base l n width kept))) × (x ≡ with_bytes base l n width kept))
      record_kept e f = (line_told e, (ap (set verdicts n) number_said, bytes_written f))
