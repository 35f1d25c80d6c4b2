-- One step of judging: a part that is looked for, the class, and what a credited record and another leave behind.
-- Assumes nothing.
use Prim.Native.Nat.{ℕ, suc, ◌+◌, ◌-◌, ◌≤◌, ◌<◌}
use native.Mathlib.Omega.{arith}
use mathlib.Core.Path.{◌≡◌, refl, sym, ap, ◌∙◌}
use mathlib.Core.Bool.{Bool, true, false, not, ◌&&◌, ◌||◌, true≢false}
use mathlib.Core.List.{List, [], ◌∷◌}
use lib.ListN.{length, take, drop, get_or, set, length-set}
use lib.Seq.{get_or-set_same, drop-set-lt}
use borrow.Author.Tests.{eq-eqb, ne_eqb, not-true, not-false}
use Rattle.rules.specs.declared.Class.{Class}
use Rattle.rules.specs.declared.Class.TheVariants.{Credited}
use Rattle.rules.specs.declared.Verdict.{Verdict}
use Rattle.rules.specs.Text.{Text, same, value}
use Rattle.rules.specs.Rules.{Rules}
use Rattle.rules.specs.Fields.{Qso, error_call}
use Rattle.rules.specs.Arguments.{among}
use Rattle.rules.specs.Judging.{class_number, is, class_of, square, is_new, claims_country, verdict_of, credited_after}
use Rattle.rules.proofs.Tests.{holds, clash}
use Rattle.rules.proofs.Classes.{is→equal}
use Rattle.fields.specs.Field.{end_of}
use Rattle.fields.proofs.PartLaws.{end_by_span}
use Rattle.reader.specs.Contact.{between, claimed_at}
use Rattle.judge.specs.declared.Kept.{Kept}
use Rattle.judge.specs.declared.Noted.{Noted}
use Rattle.judge.specs.declared.Step.{Step}
use Rattle.judge.specs.Said.{class_by, verdict_by}
use Rattle.judge.specs.Count.{worth_if}
use Rattle.judge.specs.Parts.{key_of, part_by, kept_texts, kept_numbers, Keyed, Lying}
use Rattle.judge.specs.Memory.{Memory, unseen, memory, Remembers}
use Rattle.judge.specs.Step.{call_noted, country_noted, claims_noted, may_repeat_noted, worth_noted, mode_noted, class_noted, Told, Classed, Ready, Credits, NewPart, NewSquare, Judges, Steps}
use Rattle.judge.proofs.SaidLaws.{verdict_said}
use Rattle.judge.proofs.CountLaws.{worth_most}
use Rattle.judge.proofs.PartLaws.{part_size, part_by_lem, part_keyed, texts_key, texts_more, lying_key, lying_more}
use Rattle.judge.proofs.ToldLaws.{call_inside_lem, points_inside, worth_is_lem, mode_is_lem, country_is_lem, country_inside}
use Rattle.judge.proofs.RememberLaws.{class_is, exchange_new, square_new, remembers_credited}

-- # A part that is looked for

unseen_old : (kept : List Text) (t : Text) → among kept t ≡ true → false ≡ unseen kept t
unfolding unseen
unseen_old kept [] e = refl
unseen_old kept (d ∷ t) e = ap not (sym e)

unseen_new : (kept : List Text) (t : Text) → 0 < length t → among kept t ≡ false → true ≡ unseen kept t
unfolding unseen
unseen_new kept [] h e = absurd (omega arith)
unseen_new kept (d ∷ t) h e = ap not (sym e)

module _ (s : Text) (places keys : List ℕ) (m a e : ℕ) (l : Lying s places keys m) where
  pub part_none : a ≡ e → NewPart s places keys m a e false places keys
  unfolding unseen
  part_none h =
      let none : e - a ≡ 0 = omega arith in
      let all : 0 + m ≡ m = omega arith in
      record { is_new = rw none; texts = ap (kept_texts s places keys) all; lies = rw all l; rest = refl }

  module _ (h : a ≤ e) (k : e ≤ length s) {key : ℕ} (z : key ≡ key_of (between s a e)) where
    -- The key stands behind those that are kept.
    key_there : get_or (set keys m key) m 0 ≡ key_of (between s a e)
    key_there = get_or-set_same keys m key 0 l.many_keys ∙ z

    pub key_kept : Keyed s a (get_or (set keys m key) m 0)
    key_kept = part_keyed s a e h k key_there

    part_is : part_by s a (get_or (set keys m key) m 0) ≡ between s a e
    part_is = part_by_lem s a e h k key_there

    texts_are : kept_texts s places (set keys m key) m ≡ kept_texts s places keys m
    texts_are = texts_key s places keys m key m (omega arith)

    module _ {b : Bool} (found : b ≡ among (kept_texts s places (set keys m key) m) (part_by s a (get_or (set keys m key) m 0))) where
      looked : b ≡ among (kept_texts s places keys m) (between s a e)
      looked = found ∙ (λ i. among (texts_are i) (part_is i))

      pub part_old : b ≡ true → NewPart s places keys m a e false places (set keys m key)
      part_old t =
          let all : 0 + m ≡ m = omega arith in
          record {
            is_new = unseen_old (kept_texts s places keys m) (between s a e) (sym looked ∙ t);
            texts = ap (kept_texts s places (set keys m key)) all ∙ texts_are;
            lies = rw all (lying_key s places keys m l key);
            rest = refl;
          }

      pub part_new : b ≡ false → (a ≡ e → ⊥) → m < length places → m + 1 < length keys → NewPart s places keys m a e true (set places m a) (set keys m key)
      part_new t n room keyroom =
          let one : 1 + m ≡ suc m = omega arith in
          let still = lying_key s places keys m l key in
          record {
            is_new = unseen_new (kept_texts s places keys m) (between s a e) (omega (arith, part_size s a e h k, n)) (sym looked ∙ t);
            texts = ap (kept_texts s (set places m a) (set keys m key)) one ∙ texts_more s places (set keys m key) m still a room ∙ (λ i. part_is i ∷ texts_are i);
            lies = rw one (lying_more s places (set keys m key) m still a room key_kept (omega (arith, length-set keys m key)));
            rest = drop-set-lt (m + 1) places m a (omega arith);
          }

-- # The class

module _ (calls : List Text) (s : Text) (p : Noted) {end : ℕ} (ends : end ≡ end_of s p.call) {error : Bool} (e : error ≡ same (between s p.call end) error_call) where
  error_is_lem : error ≡ same (call_noted s p) error_call
  error_is_lem = e ∙ ap (λ (n : ℕ). same (between s p.call n) error_call) ends

  pub noted_error : {class : Class} → error ≡ true → class ≡ class_by true false false → class ≡ class_noted calls s p
  unfolding class_noted class_by
  noted_error t c = c ∙ sym (rw (sym error_is_lem ∙ t))

  -- By its points, told by their first character, and by a D, which is asked where there are none.
  noted_by : {class : Class} {repeats claims : Bool} → error ≡ false → repeats ≡ (may_repeat_noted s p && among calls (call_noted s p)) → claims ≡ claims_noted s p → class ≡ class_by false repeats claims → class ≡ class_noted calls s p
  unfolding class_noted
  noted_by f r k c = c ∙ (λ i. class_by ((sym f ∙ error_is_lem) i) (r i) (k i))

  pub noted_points : {class : Class} {repeats : Bool} {t : Text} → error ≡ false → (get_or s p.points 0 ≡ 48 → ⊥) → repeats ≡ among calls t → t ≡ call_noted s p → class ≡ class_by false repeats true → class ≡ class_noted calls s p
  noted_points f n r k c =
      let claims : true ≡ claims_noted s p = ap not (sym (ne_eqb (get_or s p.points 0) 48 n)) in
      noted_by f (r ∙ ap (among calls) k ∙ (λ i. (claims i || claimed_at s p.pointsend) && among calls (call_noted s p))) claims c

  module _ (f : error ≡ false) (z : get_or s p.points 0 ≡ 48) {mark : Bool} (d : mark ≡ claimed_at s p.pointsend) where
    no_claims : false ≡ claims_noted s p
    no_claims = ap not (sym (eq-eqb (get_or s p.points 0) 48 z))

    pub noted_void : {class : Class} → not mark ≡ true → class ≡ class_by false false false → class ≡ class_noted calls s p
    noted_void n c = noted_by f (λ i. (no_claims i || (sym (not-true mark n) ∙ d) i) && among calls (call_noted s p)) no_claims c

    pub noted_marked : {class : Class} {repeats : Bool} {t : Text} → not mark ≡ false → repeats ≡ among calls t → t ≡ call_noted s p → class ≡ class_by false repeats false → class ≡ class_noted calls s p
    noted_marked n r k c =
        noted_by f (r ∙ ap (among calls) k ∙ (λ i. (no_claims i || (sym (not-false mark n) ∙ d) i) && among calls (call_noted s p))) no_claims c

-- # The marks

-- Where the class is not that of a credited record, no answer makes a mark.
no_marks : (class : Class) (x y z : Bool) → is Credited class ≡ false → verdict_by class false false false ≡ verdict_by class x y z
unfolding verdict_by
no_marks class x y z e = λ i.
    record {
      class = class;
      exchange = by (is Credited class) x e i;
      square = by (is Credited class) y e i;
      country = by (is Credited class) z e i;
    }
  where
    by : (b w : Bool) → b ≡ false → (b && false) ≡ (b && w)
    by true w f = absurd (true≢false f)
    by false w f = refl

credited_marks : (v : Verdict) → v.class ≡ Credited → v ≡ verdict_by Credited v.exchange v.square v.country
unfolding verdict_by is class_number
credited_marks v e = λ i. record { class = e i; exchange = v.exchange; square = v.square; country = v.country }

-- # A credited record

pub credits : (R : Rules) (s : Text) (p : Noted) (mode : ℕ) (kept : Kept) (calls exchanges exchangeKeys squares : List ℕ) {v : Verdict} {x y z : Bool} {end w b d : ℕ} {exchanges' exchangeKeys' squares' : List ℕ} →
    v ≡ verdict_by Credited x y z →
    end ≡ end_of s p.exchange →
    NewPart s exchanges exchangeKeys kept.exchanges p.exchange end x exchanges' exchangeKeys' →
    NewSquare squares kept.squares (take 4 (between s (end + 1) (p.points - 1))) y squares' →
    z ≡ country_noted s p →
    w ≡ worth_noted R s p →
    b ≡ worth_if y 1 →
    d ≡ worth_if x 1 →
    Credits R s p mode kept calls exchanges exchangeKeys squares
    (record { verdict = v; worth = w; mode = mode; kept = record { calls = kept.calls + 1; squares = b + kept.squares; exchanges = d + kept.exchanges } })
    (set calls kept.calls p.call) exchanges' exchangeKeys' squares'
unfolding verdict_by is class_number
credits R s p mode kept calls exchanges exchangeKeys squares ev ends part square ec ew eb ed =
    let ex = ap (λ (u : Verdict). u.exchange) ev in
    let ey = ap (λ (u : Verdict). u.square) ev in
    record {
      class = ap (λ (u : Verdict). u.class) ev;
      exchange = rw (ex, ← ends) part;
      square = rw (ey, ← ends) square;
      country = ap (λ (u : Verdict). u.country) ev ∙ ec;
      worth = ew;
      mode_told = refl;
      calls_then = refl;
      kept_calls = refl;
      kept_exchanges = rw (ed, ex);
      kept_squares = rw (eb, ey);
    }

-- # One record, where the home part of a call is the call: then what is kept of a call is the call itself

module _ (R : Rules) (home : (t : Text) → R.home t ≡ t) (s : Text) (p : Noted) (kept : Kept) (calls callKeys exchanges exchangeKeys squares : List ℕ) (ready : Ready R s p kept calls callKeys exchanges exchangeKeys squares) {key : ℕ} (z : key ≡ key_of (call_noted s p)) where
  abbrev m : ℕ
  m = kept.calls

  abbrev keys : List ℕ
  keys = set callKeys m key

  lies : Lying s calls callKeys m
  lies = ready.stays.calls_lie

  from : p.call ≤ end_of s p.call
  from = omega (arith, end_by_span s p.call)

  to : end_of s p.call ≤ length s
  to = omega (arith, call_inside_lem ready.told)

  there : get_or keys m 0 ≡ key_of (call_noted s p)
  there = get_or-set_same callKeys m key 0 lies.many_keys ∙ z

  texts_same : kept_texts s calls keys m ≡ kept_texts s calls callKeys m
  texts_same = texts_key s calls callKeys m key m (omega arith)

  pub classed : {end : ℕ} → end ≡ end_of s p.call → Classed s p end calls keys m
  classed e =
      record {
        lies = lying_key s calls callKeys m lies key;
        ends = e;
        within = rw e (call_inside_lem ready.told);
        key = there;
        points = points_inside ready.told;
        last = country_inside ready.told;
      }

  abbrev before : Memory
  before = memory s kept calls callKeys exchanges exchangeKeys squares

  module _ {class : Class} {n : ℕ} (e : class ≡ class_noted (kept_texts s calls keys m) s p) (k : n ≡ class_number class) where
    class_there : (q : Qso) (credited : List Qso) → Told R s p q → Remembers R before credited → class ≡ class_of R credited q
    unfolding memory
    class_there q credited told r =
        e ∙ ap (λ (ts : List Text). class_noted ts s p) texts_same ∙ class_is R s p q told before credited r home

    -- A record that is not credited.
    module _ (f : n ≡ 0 → ⊥) {v : Verdict} (w : v ≡ verdict_by class false false false) where
      other_judged : (q : Qso) (credited : List Qso) → Told R s p q → Remembers R before credited → Judges R q credited (record { verdict = v; worth = 0; mode = 0; kept = kept }) (memory s kept calls keys exchanges exchangeKeys squares)
      unfolding memory verdict_of credited_after is
      other_judged q credited told r =
          let class' = class_there q credited told r in
          let not_credited : is Credited (class_of R credited q) ≡ false = ne_eqb 0 (class_number (class_of R credited q)) (λ x. f (k ∙ ap class_number class' ∙ sym x)) in
          record {
            verdict =
                w
                ∙ ap (λ (x : Class). verdict_by x false false false) class'
                ∙ no_marks (class_of R credited q) (is_new (λ x. x.exchange) credited q) (is_new square credited q) (claims_country q) not_credited
                ∙ verdict_said R credited q;
            worth = rw not_credited;
            mode = λ credit. clash credit not_credited;
            remembers = rw (not_credited, texts_same) r;
          }

      pub steps_other : Steps R s p kept calls callKeys exchanges exchangeKeys squares (record { verdict = v; worth = 0; mode = 0; kept = kept }) calls keys exchanges exchangeKeys squares
      steps_other =
          record {
            judges = other_judged;
            stays = record { calls_lie = lying_key s calls callKeys m lies key; exchanges_lie = ready.stays.exchanges_lie; squares_lie = ready.stays.squares_lie };
            more_calls = omega arith;
            more_exchanges = omega arith;
            more_squares = omega arith;
            calls_rest = refl;
            exchanges_rest = refl;
          }

    -- A record that is credited.
    module _ (f : n ≡ 0) {mode : ℕ} (by_mode : mode ≡ mode_noted s p) {r : Step} {calls' exchanges' exchangeKeys' squares' : List ℕ} (c : Credits R s p mode kept calls exchanges exchangeKeys squares r calls' exchanges' exchangeKeys' squares') where
      still : Lying s calls keys m
      still = lying_key s calls callKeys m lies key

      count : r.kept.calls ≡ suc m
      count = omega (arith, c.kept_calls)

      calls_kept : kept_texts s calls' keys r.kept.calls ≡ call_noted s p ∷ kept_texts s calls callKeys m
      calls_kept =
          (λ i. kept_texts s (c.calls_then i) keys (count i))
          ∙ texts_more s calls keys m still p.call ready.call_room
          ∙ (λ i. part_by_lem s p.call (end_of s p.call) from to there i ∷ texts_same i)

      credited_judged : (q : Qso) (credited : List Qso) → Told R s p q → Remembers R before credited → Judges R q credited r (memory s r.kept calls' keys exchanges' exchangeKeys' squares')
      unfolding memory verdict_of credited_after is
      credited_judged q credited told rem =
          let class' = class_there q credited told rem in
          let is_credited : is Credited (class_of R credited q) ≡ true = eq-eqb 0 (class_number (class_of R credited q)) (sym f ∙ k ∙ ap class_number class') in
          let credit : class_of R credited q ≡ Credited = is→equal Credited (class_of R credited q) (holds is_credited) in
          let new : r.verdict.exchange ≡ is_new (λ x. x.exchange) credited q = c.exchange.is_new ∙ exchange_new R s p q told before credited rem in
          let other : r.verdict.square ≡ is_new square credited q = c.square.is_new ∙ square_new R s p q told before credited rem in
          record {
            verdict =
                credited_marks r.verdict c.class
                ∙ (λ i. verdict_by (sym credit i) (new i) (other i) ((c.country ∙ country_is_lem told) i))
                ∙ verdict_said R credited q;
            worth = c.worth ∙ worth_is_lem told ∙ ap (λ (b : Bool). worth_if b (value q.points)) (sym is_credited);
            mode = λ credit. c.mode_told ∙ by_mode ∙ mode_is_lem told;
            remembers =
                rw is_credited
                (remembers_credited R s p q told before credited rem home (memory s r.kept calls' keys exchanges' exchangeKeys' squares')
                calls_kept
                (ap (kept_texts s exchanges' exchangeKeys') c.kept_exchanges ∙ c.exchange.texts)
                (ap (kept_numbers squares') c.kept_squares ∙ c.square.numbers)
                new
                other);
          }

      pub steps_credited : Steps R s p kept calls callKeys exchanges exchangeKeys squares r calls' keys exchanges' exchangeKeys' squares'
      steps_credited =
          record {
            judges = credited_judged;
            stays =
                record {
                  calls_lie = rw (c.calls_then, count) (lying_more s calls keys m still p.call ready.call_room (part_keyed s p.call (end_of s p.call) from to there) (omega (arith, length-set callKeys m key, ready.call_key_room)));
                  exchanges_lie = rw c.kept_exchanges c.exchange.lies;
                  squares_lie = omega (arith, c.kept_squares, c.square.size, worth_most r.verdict.square 1, ready.square_room);
                };
            more_calls = omega (arith, c.kept_calls);
            more_exchanges = omega (arith, c.kept_exchanges, worth_most r.verdict.exchange 1);
            more_squares = omega (arith, c.kept_squares, worth_most r.verdict.square 1);
            calls_rest = ap (drop (m + 1)) c.calls_then ∙ drop-set-lt (m + 1) calls m p.call (omega arith);
            exchanges_rest = c.exchange.rest;
          }
