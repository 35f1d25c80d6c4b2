-- What one byte does to the link, and what many do: reading goes on as the reader would, or a refusal is settled, or the slices are too short.
-- Assumes nothing.
use Prim.Native.Nat.{ℕ, zero, suc, ◌+◌, ◌-◌, ◌≤◌, ◌<◌}
use native.Mathlib.Omega.{arith}
use mathlib.Core.Path.{◌≡◌, refl, sym, ap, subst, ◌∙◌}
use mathlib.Core.Bool.{Bool, true, false, cond, ◌&&◌}
use mathlib.Core.List.{List, [], ◌∷◌, ◌++◌}
use lib.Dec.{leb, ltb, eqb}
use lib.ListN.{length, length-append}
use borrow.Author.Tests.{le-leb, lt-ltb, le-ltb, ltb-true, ltb-false, eqb-true, eqb-false, ne_eqb}
use Rattle.std.specs.Prelude.{Result, Ok, Err}
use Rattle.rules.specs.declared.Fault.{Fault}
use Rattle.rules.specs.declared.Refusal.{Refusal}
use Rattle.rules.specs.declared.Due.{Due}
use Rattle.rules.specs.declared.Due.TheVariants.{Identifier, Keyword, Remarks, Remark, Record, End}
use Rattle.rules.specs.Text.{Text, allowed, all}
use Rattle.rules.specs.Rules.{Rules}
use Rattle.rules.specs.Log.{line_rule}
use Rattle.rules.specs.Reading.{a_line, no_line, first_line, lines, RecordRule, keeps, breaks, record_rule, records_due, after_record, step, Reading, refused, refusal, at_rest, fault}
use Rattle.rules.specs.Answers.{refusal_of_reading}
use Rattle.rules.specs.Link.{Finished, Link, is_open, line_of, rest_of, stopped, Lent, is_short, records_in, announced_by, goes_on, if_long, after_line, finishes, holding, no_line_here, behind_return, in_line, of_line, placed, counted, taken, byte_in, bytes_in}
use Rattle.rules.specs.LinkDemands.{announced_with}
use Rattle.rules.proofs.Tests.{and_r, and_i, clash}
use Rattle.rules.proofs.TextLaws.{all_append}
use Rattle.rules.proofs.Refusals.{of_step}
use Rattle.rules.proofs.LinkLines.{read_from, announced_from, IsLine, IsFront, from_none, announced_none, from_taken, announced_taken, from_refused, announced_refused, found_line, no_feed, no_such_byte, one_too_many, rest_return, rest_character, from_held, announced_held, from_beyond, announced_late}

-- # States that a run of calls comes to

-- How many records were taken.
unfoldable pub record_lines : Due → ℕ
record_lines Identifier = 0
record_lines (Keyword k) = 0
record_lines Remarks = 0
record_lines Remark = 0
record_lines (Record n) = 1
record_lines End = 0

unfoldable pub taken_of : List Finished → ℕ
unfolding record_lines
taken_of [] = 0
taken_of (f ∷ fs) = record_lines f.due + taken_of fs

-- N is what was taken and what is due; in front of the records it is not known.
abbrev pub Announces : Due → ℕ → ℕ → Type 0
Announces Identifier taken n = (taken ≡ 0) × (n ≡ 0)
Announces (Keyword k) taken n = (taken ≡ 0) × (n ≡ 0)
Announces Remarks taken n = (taken ≡ 0) × (n ≡ 0)
Announces Remark taken n = (taken ≡ 0) × (n ≡ 0)
Announces (Record m) taken n = (0 < m) × (taken + m ≡ n)
Announces End taken n = taken ≡ n

announces_due : (t m : ℕ) → Announces (records_due m) t (t + m)
unfolding records_due
announces_due t zero = omega arith
announces_due t (suc m) = (omega arith, refl)

announces_first : (m : ℕ) → Announces (records_due m) 0 (records_in (records_due m))
unfolding records_due records_in
announces_first zero = refl
announces_first (suc m) = (omega arith, omega arith)

-- Behind a line in front of the records.
abbrev Begins : Result Due Fault → Type 0
Begins (Ok next) = Announces next 0 (records_in next)
Begins (Err e) = Unit {0}

module _ (R : Rules) where
  begins_next : (due : Due) (l : Text) → Begins (step R due l)
  unfolding records_in
  begins_next due l =
      of_step R Begins
      (record {
        keyword = λ k. (refl, refl);
        remarks = (refl, refl);
        remark = (refl, refl);
        records = announces_first;
        three = tt;
        four = tt;
        five = λ field h. tt;
        six = tt;
      })
      due l

  begun_next : (due : Due) (l : Text) (next : Due) (t : ℕ) → t ≡ 0 → step R due l ≡ Ok next → Announces next (0 + t) (records_in next)
  begun_next due l next t z e =
      let none : 0 ≡ 0 + t = omega (arith, z) in
      subst (λ (m : ℕ). Announces next m (records_in next)) none (subst Begins e (begins_next due l))

  -- Behind a record.
  record_goes : (m : ℕ) (l : Text) (next : Due) → step R (Record m) l ≡ Ok next → records_due (m - 1) ≡ next
  unfolding step
  record_goes m l next e = by (record_rule R l) e
    where
      by : (r : RecordRule) → after_record m r ≡ Ok next → records_due (m - 1) ≡ next
      by keeps g = unfold after_record in cc
      by (breaks field) g = let z : ◌≡◌ {A = ℕ} 0 1 = unfold after_record in cc in absurd (omega arith)

  announces_next : (due : Due) (l : Text) (next : Due) (t n : ℕ) → step R due l ≡ Ok next → Announces due t n → Announces next (record_lines due + t) (announced_by due next n)
  unfolding record_lines announced_by
  announces_next Identifier l next t n e a = begun_next Identifier l next t a.0 e
  announces_next (Keyword k) l next t n e a = begun_next (Keyword k) l next t a.0 e
  announces_next Remarks l next t n e a = begun_next Remarks l next t a.0 e
  announces_next Remark l next t n e a = begun_next Remark l next t a.0 e
  announces_next (Record m) l next t n e a =
      let all : 1 + t + (m - 1) ≡ n = omega (arith, a.0, a.1) in
      subst (λ (due : Due). Announces due (1 + t) n) (record_goes m l next e) (subst (Announces (records_due (m - 1)) (1 + t)) all (announces_due (1 + t) (m - 1)))
  announces_next End l next t n e a = let z : ◌≡◌ {A = ℕ} 0 1 = unfold step in cc in absurd (omega arith)

-- A line is not refused with number 0.
abbrev pub Refuses : Result Due Fault → Type 0
Refuses (Ok next) = Unit {0}
Refuses (Err e) = eqb e.number 0 ≡ false

pub refuses_with : (R : Rules) (due : Due) (l : Text) → Refuses (step R due l)
refuses_with R due l =
    of_step R Refuses
    (record {
      keyword = λ k. tt;
      remarks = tt;
      remark = tt;
      records = λ n. tt;
      three = refl;
      four = refl;
      five = λ field h. refl;
      six = refl;
    })
    due l

-- The state of a link that was opened and did not refuse.
pub record Sound (R : Rules) (k : Link) : Type 0 where
  pub front : IsFront R k
  pub announces : Announces k.due (taken_of k.finished) k.announced
  pub at_end : k.due ≡ End → rest_of k ≡ []

-- # One byte

-- The slices suffice for what is announced.
abbrev pub Fit : Lent → Link → Type 0
Fit lent k = is_short lent k.announced ≡ false

pub none_short : (lent : Lent) → is_short lent 0 ≡ false
unfolding is_short
none_short lent = rw (below lent.verdicts, below lent.worked)
  where
    below : (n : ℕ) → ltb n 0 ≡ false
    below n = le-ltb n 0 (omega arith)

not_none : (R : Rules) (lent : Lent) (n : ℕ) {A : Type 0} → n ≡ 0 → is_short lent n ≡ true → A
not_none R lent n z s = clash s (ap (is_short lent) z ∙ none_short lent)

-- What is announced and too much for the slices stays so.
announced_stays : (R : Rules) (lent : Lent) (due : Due) (t n : ℕ) (ls : List Text) → Announces due t n → is_short lent n ≡ true → announced_with R due n ls ≡ n
unfolding records_due
announced_stays R lent Identifier t n ls a s = not_none R lent n a.1 s
announced_stays R lent (Keyword k) t n ls a s = not_none R lent n a.1 s
announced_stays R lent Remarks t n ls a s = not_none R lent n a.1 s
announced_stays R lent Remark t n ls a s = not_none R lent n a.1 s
announced_stays R lent (Record zero) t n ls a s = let h = a.0 in absurd (omega arith)
announced_stays R lent (Record (suc m)) t n ls a s = announced_late R (suc m) n ls
announced_stays R lent End t n ls a s = announced_late R 0 n ls

module _ (R : Rules) (lent : Lent) (k : Link) (b : ℕ) where
  -- What the byte makes of a state with the bytes that are counted so far, and what that means for all that may come behind it.
  pub data Outcome (j : Link) : Type 0 where
    goes :
        is_open j ≡ true →
        Sound R j →
        Fit lent j →
        j.count ≡ k.count →
        ((t : Text) → read_from R k (b ∷ t) ≡ read_from R j t) →
        ((t : Text) → announced_from R k (b ∷ t) ≡ announced_from R j t) →
        Outcome j
    settles :
        is_open j ≡ false →
        ((t : Text) → read_from R k (b ∷ t) ≡ refused j.refusal) →
        ((t : Text) → announced_from R k (b ∷ t) ≡ k.announced) →
        Outcome j
    lacks :
        j.refusal ≡ refusal 7 0 0 →
        ((t : Text) → is_short lent (announced_from R k (b ∷ t)) ≡ true) →
        Outcome j

  module _ (unrefused : is_open k ≡ true) (sound : Sound R k) (fit : Fit lent k) where
    -- No line can come.
    none_here : IsLine k.due → ((t : Text) → first_line R (rest_of k ++ b ∷ t) ≡ no_line) → Outcome (no_line_here k)
    unfolding no_line_here stopped
    none_here d e = settles refl (λ t. from_none R k b t (e t) d) (λ t. announced_none R k (b ∷ t) (e t))

    -- # The LF

    module _ (is : b ≡ 10) (returned : k.returned ≡ true) where
      at_ten : {A : Type 0} (f g : Text → A) → ((t : Text) → f (10 ∷ t) ≡ g t) → (t : Text) → f (b ∷ t) ≡ g t
      at_ten f g e t = ap (λ (c : ℕ). f (c ∷ t)) is ∙ e t

      found : (t : Text) → first_line R (rest_of k ++ 10 ∷ t) ≡ a_line k.begun t
      found t = found_line R k sound.front t returned

      refused_here : (number field : ℕ) → step R k.due k.begun ≡ Err (fault number field) → Outcome (stopped k (refusal number (line_of k) field))
      unfolding stopped
      refused_here number field e =
          settles (subst Refuses e (refuses_with R k.due k.begun))
          (at_ten (read_from R k) (λ t. refused (refusal number (line_of k) field)) (λ t. from_refused R k t (found t) number field e))
          (at_ten (announced_from R k) (λ t. k.announced) (λ t. announced_refused R k t (found t) number field e))

      module _ (next : Due) (e : step R k.due k.begun ≡ Ok next) where
        abbrev behind : Link
        behind = goes_on k k.begun next

        sound_behind : Sound R behind
        unfolding goes_on line_rule taken_of all
        sound_behind =
            record {
              front = and_i (le-leb 0 R.longest_line (omega arith)) refl;
              announces = announces_next R k.due k.begun next (taken_of k.finished) k.announced e sound.announces;
              at_end = λ d. refl;
            }

        taken_here : Outcome (if_long lent behind)
        unfolding if_long goes_on stopped announced_from
        taken_here = by (is_short lent behind.announced) refl
          where
            read_on_lem : (t : Text) → read_from R k (b ∷ t) ≡ read_from R behind t
            read_on_lem = at_ten (read_from R k) (read_from R behind) (λ t. from_taken R k t (found t) next e)

            announced_on_lem : (t : Text) → announced_from R k (b ∷ t) ≡ announced_from R behind t
            announced_on_lem = at_ten (announced_from R k) (announced_from R behind) (λ t. announced_taken R k t (found t) next e)

            short_on : is_short lent behind.announced ≡ true → (t : Text) → is_short lent (announced_from R k (b ∷ t)) ≡ true
            short_on f t =
                ap (is_short lent) (announced_on_lem t
                ∙ announced_stays R lent next (taken_of behind.finished) behind.announced (lines R (rest_of behind ++ t)).whole sound_behind.announces f)
                ∙ f

            by : (short : Bool) → is_short lent behind.announced ≡ short → Outcome (cond short (stopped behind (refusal 7 0 0)) behind)
            by false f = goes unrefused sound_behind f refl read_on_lem announced_on_lem
            by true f = lacks refl (short_on f)

      finished_here : Outcome (finishes R lent k)
      unfolding finishes after_line
      finished_here = by (step R k.due k.begun) refl
        where
          by : (m : Result Due Fault) → step R k.due k.begun ≡ m → Outcome (after_line lent k k.begun m)
          by (Ok next) e = taken_here next e
          by (Err f) e = refused_here f.number f.field e

    -- # A byte of a line

    module _ (line : IsLine k.due) where
      not_end : {A : Type 0} → k.due ≡ End → A
      unfolding at_rest refusal_of_reading
      not_end d =
          let told : at_rest End 0 (0 ∷ []) ≡ refused (refusal 2 0 0) = ap (λ (due : Due). at_rest due 0 (0 ∷ [])) (sym d) ∙ line 0 0 [] in
          let z : ◌≡◌ {A = ℕ} 6 2 = ap (λ (r : Reading). (refusal_of_reading r).number) told in
          absurd (omega arith)

      -- The CR, or one character more.
      held_here : (begun : Text) (returned : Bool) → line_rule R begun ≡ true → ((t : Text) → rest_of k ++ b ∷ t ≡ rest_of (holding k begun returned) ++ t) → Outcome (holding k begun returned)
      unfolding holding
      held_here begun returned front e =
          goes unrefused
          (record { front = front; announces = sound.announces; at_end = λ d. not_end d })
          fit
          refl
          (λ t. from_held R k begun returned (b ∷ t) t (e t))
          (λ t. announced_held R k begun returned (b ∷ t) t (e t))

      longer : allowed b ≡ true → ltb (length k.begun) R.longest_line ≡ true → line_rule R (k.begun ++ (b ∷ [])) ≡ true
      unfolding line_rule all
      longer a h =
          let short = ltb-true (length k.begun) R.longest_line h in
          and_i (le-leb (length (k.begun ++ (b ∷ []))) R.longest_line (omega (arith, length-append k.begun (b ∷ []))))
          (all_append allowed k.begun (b ∷ []) (and_r (leb (length k.begun) R.longest_line) (all allowed k.begun) sound.front) (and_i a refl))

      not_thirteen : eqb b 13 ≡ false → eqb 13 b ≡ false
      not_thirteen e = ne_eqb 13 b (λ h. eqb-false b 13 e (sym h))

      in_line_lem : k.returned ≡ false → Outcome (in_line R k b)
      unfolding in_line
      in_line_lem plain = by (eqb b 13) refl
        where
          room : (c : Bool) → allowed b ≡ true → eqb b 13 ≡ false → ltb (length k.begun) R.longest_line ≡ c → Outcome (cond c (holding k (k.begun ++ (b ∷ [])) false) (no_line_here k))
          room true a e h = held_here (k.begun ++ (b ∷ [])) false (longer a h) (λ t. rest_character R k b t plain)
          room false a e h =
              none_here line (λ t. one_too_many R k sound.front b t plain a (ltb-false (length k.begun) R.longest_line h))

          character : (a : Bool) → allowed b ≡ a → eqb b 13 ≡ false → Outcome (cond (a && ltb (length k.begun) R.longest_line) (holding k (k.begun ++ (b ∷ [])) false) (no_line_here k))
          character true a e = room (ltb (length k.begun) R.longest_line) a e refl
          character false a e = none_here line (λ t. no_such_byte R k sound.front b t plain a (not_thirteen e))

          by : (r : Bool) → eqb b 13 ≡ r → Outcome (cond r (holding k k.begun true) (cond (allowed b && ltb (length k.begun) R.longest_line) (holding k (k.begun ++ (b ∷ [])) false) (no_line_here k)))
          by true e =
              held_here k.begun true sound.front (λ t. ap (λ (c : ℕ). rest_of k ++ c ∷ t) (eqb-true b 13 e) ∙ rest_return R k t plain)
          by false e = character (allowed b) refl e

      behind_return_lem : k.returned ≡ true → Outcome (behind_return R lent k b)
      unfolding behind_return
      behind_return_lem returned = by (eqb b 10) refl
        where
          by : (f : Bool) → eqb b 10 ≡ f → Outcome (cond f (finishes R lent k) (no_line_here k))
          by true e = finished_here (eqb-true b 10 e) returned
          by false e =
              none_here line (λ t. no_feed R k sound.front b t returned (ne_eqb 10 b (λ h. eqb-false b 10 e (sym h))))

      of_line_lem : Outcome (of_line R lent k b)
      unfolding of_line
      of_line_lem = by k.returned refl
        where
          by : (r : Bool) → k.returned ≡ r → Outcome (cond r (behind_return R lent k b) (in_line R k b))
          by true e = behind_return_lem e
          by false e = in_line_lem e

    -- Behind the last record.
    beyond_here : k.due ≡ End → Outcome (stopped k (refusal 6 (line_of k) 0))
    unfolding stopped announced_from records_due
    beyond_here d =
        settles refl (λ t. from_beyond R k d b t)
        (λ t. ap (λ (due : Due). announced_with R due k.announced (lines R (rest_of k ++ b ∷ t)).whole) d ∙ announced_late R 0 k.announced (lines R (rest_of k ++ b ∷ t)).whole)

    pub placed_here : Outcome (placed R lent k.due k b)
    unfolding placed at_rest
    placed_here = by k.due refl
      where
        line : (due : Due) → IsLine due → k.due ≡ due → Outcome (of_line R lent k b)
        line due d e = of_line_lem (subst IsLine (sym e) d)

        by : (due : Due) → k.due ≡ due → Outcome (placed R lent due k b)
        by Identifier e = line Identifier (λ n c s. refl) e
        by (Keyword m) e = line (Keyword m) (λ n c s. refl) e
        by Remarks e = line Remarks (λ n c s. refl) e
        by Remark e = line Remark (λ n c s. refl) e
        by (Record m) e = line (Record m) (λ n c s. refl) e
        by End e = beyond_here e

-- # Many bytes

-- A refusal stays.
pub refused_bytes : (R : Rules) (lent : Lent) (k : Link) (s : Text) → is_open k ≡ false → bytes_in R lent k s ≡ k
unfolding bytes_in byte_in
refused_bytes R lent k [] e = refl
refused_bytes R lent k (b ∷ s) e = rw e (refused_bytes R lent k s e)

pub bytes_joined : (R : Rules) (lent : Lent) (k : Link) (s t : Text) → bytes_in R lent k (s ++ t) ≡ bytes_in R lent (bytes_in R lent k s) t
unfolding bytes_in
bytes_joined R lent k [] t = refl
bytes_joined R lent k (b ∷ s) t = bytes_joined R lent (byte_in R lent k b) s t

module _ (R : Rules) (lent : Lent) where
  -- What bytes make of a state, and what that means for all that may come behind them.
  pub data After (k : Link) (s : Text) (j : Link) : Type 0 where
    reads :
        is_open j ≡ true →
        Sound R j →
        Fit lent j →
        j.count ≡ k.count + length s →
        ((t : Text) → read_from R k (s ++ t) ≡ read_from R j t) →
        ((t : Text) → announced_from R k (s ++ t) ≡ announced_from R j t) →
        After k s j
    settled :
        is_open j ≡ false →
        ((t : Text) → read_from R k (s ++ t) ≡ refused j.refusal) →
        ((t : Text) → is_short lent (announced_from R k (s ++ t)) ≡ false) →
        After k s j
    lacked :
        j.refusal ≡ refusal 7 0 0 →
        ((t : Text) → is_short lent (announced_from R k (s ++ t)) ≡ true) →
        After k s j

  -- One byte of a log that is not too long.
  one_byte : (k : Link) (b : ℕ) → is_open k ≡ true → Sound R k → Fit lent k → k.count < R.longest_log → Outcome R lent (counted k) b (byte_in R lent k b)
  unfolding byte_in taken counted
  one_byte k b e sound fit h =
      rw (e, lt-ltb k.count R.longest_log h)
      (placed_here R lent (counted k) b e (record { front = sound.front; announces = sound.announces; at_end = sound.at_end }) fit)

  -- That a byte is counted is not read.
  read_counted : (k : Link) (t : Text) → read_from R (counted k) t ≡ read_from R k t
  unfolding read_from counted
  read_counted k t = refl

  announced_counted : (k : Link) (t : Text) → announced_from R (counted k) t ≡ announced_from R k t
  unfolding announced_from counted
  announced_counted k t = refl

  -- A byte, and the bytes behind it.
  then_many : (k : Link) (b : ℕ) (s : Text) (i j : Link) → Fit lent k → Outcome R lent (counted k) b i → bytes_in R lent i s ≡ j → (is_open i ≡ true → Sound R i → Fit lent i → i.count ≡ k.count + 1 → After i s j) → After k (b ∷ s) j
  unfolding counted
  then_many k b s i j fit (goes e sound fits count read announced) is more = by (more e sound fits count)
    where
      on : {A : Type 0} (f : Link → Text → A) → ((t : Text) → f (counted k) (b ∷ t) ≡ f i t) → ((l : Link) (t : Text) → f (counted l) t ≡ f l t) → (t : Text) → f k (b ∷ s ++ t) ≡ f i (s ++ t)
      on f e c t = sym (c k (b ∷ s ++ t)) ∙ e (s ++ t)

      by : After i s j → After k (b ∷ s) j
      by (reads e g f c r a) =
          reads e g f (omega (arith, c, count))
          (λ t. on (read_from R) read read_counted t ∙ r t)
          (λ t. on (announced_from R) announced announced_counted t ∙ a t)
      by (settled e r a) =
          settled e
          (λ t. on (read_from R) read read_counted t ∙ r t)
          (λ t. ap (is_short lent) (on (announced_from R) announced announced_counted t) ∙ a t)
      by (lacked e a) = lacked e (λ t. ap (is_short lent) (on (announced_from R) announced announced_counted t) ∙ a t)
  then_many k b s i j fit (settles e read announced) is more =
      let same : i ≡ j = sym (refused_bytes R lent i s e) ∙ is in
      subst (After k (b ∷ s)) same
      (settled e
      (λ t. sym (read_counted k (b ∷ s ++ t)) ∙ read (s ++ t))
      (λ t. ap (is_short lent) (sym (announced_counted k (b ∷ s ++ t)) ∙ announced (s ++ t)) ∙ fit))
  then_many k b s i j fit (lacks e announced) is more =
      let closed : is_open i ≡ false = ap (λ (r : Refusal). eqb r.number 0) e in
      let same : i ≡ j = sym (refused_bytes R lent i s closed) ∙ is in
      subst (After k (b ∷ s)) same
      (lacked e (λ t. ap (is_short lent) (sym (announced_counted k (b ∷ s ++ t))) ∙ announced (s ++ t)))

  pub after : (s : Text) (k : Link) → is_open k ≡ true → Sound R k → Fit lent k → k.count + length s ≤ R.longest_log → After k s (bytes_in R lent k s)
  unfolding bytes_in
  after [] k e sound fit h = reads e sound fit (omega arith) (λ t. refl) (λ t. refl)
  after (b ∷ s) k e sound fit h =
      then_many k b s (byte_in R lent k b) (bytes_in R lent (byte_in R lent k b) s) fit (one_byte k b e sound fit (omega (arith, h))) refl
      (λ o g f c. after s (byte_in R lent k b) o g f (omega (arith, h, c)))
