-- Whatever the state is: a call tells line and field as document 01 has them.
-- Assumes nothing.
use Prim.Native.Nat.{ℕ, ◌+◌, ◌-◌, ◌*◌, ◌/◌, ◌≤◌, ◌<◌, min}
use native.Mathlib.Omega.{arith}
use mathlib.Core.Path.{◌≡◌, refl, sym, ap, subst, ◌∙◌}
use mathlib.Core.Bool.{Bool, true, false, cond, ◌&&◌}
use mathlib.Core.List.{[], ◌∷◌}
use lib.Dec.{eqb, ltb}
use lib.ListN.{length, take, set, length-set, length-take}
use borrow.Author.Tests.{lt-ltb, le-ltb, ltb-true, ltb-false}
use Rattle.std.specs.Prelude.{Result, Ok, Err}
use Rattle.rules.specs.declared.Fault.{Fault}
use Rattle.rules.specs.declared.Refusal.{Refusal}
use Rattle.rules.specs.declared.Due.{Due}
use Rattle.rules.specs.declared.Due.TheVariants.{Identifier, Keyword, Remarks, Remark, Record, End}
use Rattle.rules.specs.Text.{Text, allowed}
use Rattle.rules.specs.Rules.{Rules}
use Rattle.rules.specs.Judging.{verdict_number}
use Rattle.rules.specs.Reading.{RecordRule, keeps, breaks, record_rule, refusal, step, Reading, accepted, refused, at_rest}
use Rattle.rules.specs.Answers.{no_refusal}
use Rattle.rules.specs.Given.{LineAndField}
use Rattle.rules.specs.Link.{Lent, is_short, worked_bytes}
use Rattle.rules.proofs.Tests.{clash}
use Rattle.rules.proofs.Refusals.{Numbered, two, six, on_test, FieldIsOne, rule_field, StopsNumbered, step_numbered, Placed, rest_placed}
use Rattle.rules.proofs.LinkBytes.{none_short, Refuses, refuses_with}
use Rattle.rules.proofs.LinkPlaced.{at_line, none_told, one_told, seven_told, thirteen_told}
use Rattle.judge.specs.Narrow.{low}
use Rattle.writer.proofs.WrittenLaws.{written_length}
use Rattle.session.specs.Entry.{kept_of, record_of, has_place_for, said_of, told_line, with_bytes}
use Rattle.session.proofs.StepLaws.{place_asked}
use Rattle.link.specs.declared.Link.{Link}
use Rattle.link.specs.declared.Closing.{Closing}
use Rattle.link.specs.Link.{Holding, holding, stopped_by, stopped, is_open, line_of, due_of, is_end, announced, begun, has_return, went_on, if_long, head_goes, head_next, head_line, with_record, record_told, record_line, lent_of, lent_by, finishes, with_text, with_return, on_link, no_line_here, behind_return, in_line, of_line, placed, byte_in, bytes_in, is_sound, asked, counted, overrun, taken, feed, unended, rest_of, accepted_by, ended_by, ended, close}
use Rattle.link.specs.Keeping.{FitsLink, PlacedRightly}
use Rattle.link.proofs.TakenLaws.{some_left, record_broken, record_added}
use Rattle.link.proofs.DueLaws.{head_due, keyword_next}
use Rattle.link.proofs.HeldLaws.{rooms}

-- What a call keeps from byte to byte: line and field are told rightly, and as long as nothing is refused the slices have room for all records.
record Right (h : Holding) : Type 0 where
  told : LineAndField h.link.refusal
  long : is_open h.link ≡ true → is_short (lent_by h) (announced h.link) ≡ false

-- A refusal is told, and then nothing more is asked.
stop_right : (h : Holding) (r : Refusal) → LineAndField r → eqb r.number 0 ≡ false → Right (stopped h r)
unfolding stopped stopped_by
stop_right h r p n = record { told = p; long = λ o. clash o n }

here_right : (h : Holding) (number field : ℕ) → Numbered number field → eqb number 0 ≡ false → Right (stopped h (refusal number (line_of h.link) field))
here_right h number field k n =
    let r = refusal number (line_of h.link) field in
    stop_right h r (at_line r (omega arith) k) n

module _ {R : Rules} (F : FitsLink R) where
  -- # A finished line

  module _ (h : Holding) (l : Text) (right : Right h) where
    abbrev s : Link
    s = h.link

    -- In front of the records nothing is announced.
    went_right : (stage records done : ℕ) → stage < 39 → Right (holding (went_on R s l stage records done) h.verdicts h.worked)
    unfolding went_on announced
    went_right stage records done early =
        record {
          told = right.told;
          long = λ o. ap (λ (b : Bool). is_short (lent_by h) (cond b 0 records)) (lt-ltb stage 39 early) ∙ none_short (lent_by h);
        }

    -- At the count line the slices are asked about.
    counts_right : (records : ℕ) → Right (holding (if_long (lent_by h) (went_on R s l 39 records 0)) h.verdicts h.worked)
    unfolding if_long
    counts_right records = by (went_on R s l 39 records 0) (unfold went_on in right.told) (is_short (lent_by h) (announced (went_on R s l 39 records 0))) refl
      where
        by : (t : Link) → LineAndField t.refusal → (b : Bool) → is_short (lent_by h) (announced t) ≡ b → Right (holding (cond b (stopped_by (refusal 7 0 0)) t) h.verdicts h.worked)
        by t p true e = unfold stopped in stop_right h (refusal 7 0 0) seven_told refl
        by t p false e = record { told = p; long = λ o. e }

    goes_right : s.stage < 39 → (next : Due) → step R (due_of s) l ≡ Ok next → Right (holding (head_goes R (lent_by h) s l next) h.verdicts h.worked)
    unfolding head_goes
    goes_right early Identifier e = went_right 0 s.records s.done (omega arith)
    goes_right early (Keyword k) e =
        let few = keyword_next R (due_of s) l k (head_due s.stage (s.records - s.done) early) e in
        went_right (low (k + 1)) s.records s.done (omega (arith, few))
    goes_right early Remarks e = went_right 37 s.records s.done (omega arith)
    goes_right early Remark e = went_right 38 s.records s.done (omega arith)
    goes_right early (Record n) e = counts_right (low n)
    goes_right early End e = counts_right 0

    head_right : s.stage < 39 → Right (holding (head_line R (lent_by h) s l) h.verdicts h.worked)
    unfolding head_line head_next
    head_right early = by (step R (due_of s) l) refl
      where
        by : (m : Result Due Fault) → step R (due_of s) l ≡ m → Right (holding (head_next R (lent_by h) s l m) h.verdicts h.worked)
        by (Ok next) e = goes_right early next e
        by (Err f) e =
            unfold stopped in here_right h f.number f.field (subst StopsNumbered e (step_numbered R (due_of s) l)) (subst Refuses e (refuses_with R (due_of s) l))

    -- A record is due: there is a place for it.
    module _ (unrefused : is_open s ≡ true) (late : 39 ≤ s.stage) (line : is_end (due_of s) ≡ false) where
      room : (s.records ≤ length h.verdicts) × (s.records * worked_bytes ≤ length h.worked)
      unfolding announced
      room =
          rooms F h.verdicts h.worked s.records
          (ap (λ (b : Bool). is_short (lent_by h) (cond b 0 s.records)) (sym (le-ltb s.stage 39 late)) ∙ right.long unrefused)

      place : has_place_for s.done worked_bytes (length h.verdicts) (length h.worked) ≡ true
      place =
          let left = some_left s late line in
          sym (place_asked s.done worked_bytes (length h.verdicts) (length h.worked) (omega arith) (omega arith) (omega (arith, left, room.0)))
          ∙ lt-ltb s.done (length h.worked / worked_bytes) (omega (arith, left, room.1))

      -- The slices are as long as they were.
      added_long : length (with_bytes R l s.done worked_bytes h.worked) ≡ length h.worked
      unfolding with_bytes
      added_long =
          let left = some_left s late line in
          let t = take worked_bytes (kept_of R (said_of R l s.done worked_bytes h.worked).class (record_of l)) in
          written_length h.worked (s.done * worked_bytes) t
          (omega (arith, left, room.1, length-take worked_bytes (kept_of R (said_of R l s.done worked_bytes h.worked).class (record_of l))))

      abbrev number : ℕ
      number = verdict_number (said_of R l s.done worked_bytes h.worked)

      added_right : Right (holding (record_told s (Ok (told_line R l s.done worked_bytes h.worked))) (set h.verdicts s.done number) (with_bytes R l s.done worked_bytes h.worked))
      unfolding record_told told_line with_record announced
      added_right =
          record {
            told = right.told;
            long = λ o. (λ i. is_short (lent_of (length-set h.verdicts s.done number i) (added_long i)) (announced s)) ∙ right.long unrefused;
          }

      record_right : Right (record_line R h l)
      record_right = by (record_rule R l) refl
        where
          by : (rule : RecordRule) → record_rule R l ≡ rule → Right (record_line R h l)
          by keeps e = subst Right (sym (record_added R h l e place)) added_right
          by (breaks field) e =
              let few = subst FieldIsOne e (rule_field R l) in
              subst Right (sym (record_broken R h l field e)) (here_right h 5 field (omega arith, omega arith, few, λ n. absurd (n refl)) refl)

    finished_right : is_open s ≡ true → is_end (due_of s) ≡ false → Right (finishes R h l)
    unfolding finishes
    finished_right unrefused line = by (ltb s.stage 39) refl
      where
        by : (b : Bool) → ltb s.stage 39 ≡ b → Right (cond b (holding (head_line R (lent_by h) s l) h.verdicts h.worked) (record_line R h l))
        by true e = head_right (ltb-true s.stage 39 e)
        by false e = record_right unrefused (ltb-false s.stage 39 e) line

  -- # One byte

  module _ (h : Holding) (b : ℕ) (right : Right h) where
    none_right : Right (no_line_here h)
    unfolding no_line_here
    none_right = here_right h 2 0 two refl

    line_right : is_open h.link ≡ true → is_end (due_of h.link) ≡ false → Right (of_line R h b)
    unfolding of_line behind_return in_line with_return with_text announced
    line_right unrefused line =
        on_test Right (has_return h.link)
        (on_test Right (eqb b 10) (finished_right h (begun h.link) right unrefused line) none_right)
        (on_test Right (eqb b 13)
        (record { told = right.told; long = right.long })
        (on_test Right (allowed b && ltb h.link.held R.longest_line) (record { told = right.told; long = right.long }) none_right))

    placed_right : is_open h.link ≡ true → (due : Due) → due_of h.link ≡ due → Right (placed R h b due)
    unfolding placed
    placed_right o Identifier e = line_right o (ap is_end e)
    placed_right o (Keyword k) e = line_right o (ap is_end e)
    placed_right o Remarks e = line_right o (ap is_end e)
    placed_right o Remark e = line_right o (ap is_end e)
    placed_right o (Record n) e = line_right o (ap is_end e)
    placed_right o End e = here_right h 6 0 six refl

    byte_right : Right (byte_in R h b)
    unfolding byte_in
    byte_right = by (is_open h.link) refl
      where
        by : (o : Bool) → is_open h.link ≡ o → Right (cond o (placed R h b (due_of h.link)) h)
        by true e = placed_right e (due_of h.link) refl
        by false e = right

  bytes_right : (t : Text) (h : Holding) → Right h → Right (bytes_in R h t)
  unfolding bytes_in
  bytes_right [] h right = right
  bytes_right (b ∷ t) h right = bytes_right t (byte_in R h b) (byte_right h b right)

  -- # A call

  taken_right : (h : Holding) (t : Text) → Right h → Right (taken R h t)
  unfolding taken overrun counted announced
  taken_right h t right =
      let n = min (length t) (R.longest_log - h.link.count) in
      let after = bytes_in R (on_link (counted n) h) (take n t) in
      on_test Right (ltb n (length t) && is_open after.link)
      (stop_right after (refusal 1 0 0) one_told refl)
      (bytes_right (take n t) (on_link (counted n) h) (record { told = right.told; long = right.long }))

  module _ (h : Holding) (told : LineAndField h.link.refusal) where
    asked_right : Right (holding (asked R (lent_by h) h.link) h.verdicts h.worked)
    unfolding asked if_long
    asked_right = by (is_open h.link) (is_sound R h.link) (is_short (lent_by h) (announced h.link)) refl refl
      where
        by : (a b c : Bool) → is_open h.link ≡ a → is_short (lent_by h) (announced h.link) ≡ c → Right (holding (cond a (cond b (cond c (stopped_by (refusal 7 0 0)) h.link) (stopped_by (refusal 13 0 0))) h.link) h.verdicts h.worked)
        by true true true e f = unfold stopped in stop_right h (refusal 7 0 0) seven_told refl
        by true true false e f = record { told = told; long = λ o. f }
        by true false c e f = unfold stopped in stop_right h (refusal 13 0 0) thirteen_told refl
        by false b c e f = record { told = told; long = λ o. clash o e }

    fed_right : (t : Text) → Right (feed R h t)
    unfolding feed
    fed_right t =
        let a = asked R (lent_by h) h.link in
        on_test Right (is_open a) (taken_right (holding a h.verdicts h.worked) t asked_right) asked_right

-- # The closing

module _ (R : Rules) where
  abbrev ToldAtLast : Closing → Type 0
  ToldAtLast c = LineAndField c.refusal

  told_rest : (s : Link) (a : Reading) → Placed (line_of s) a → ToldAtLast (ended_by R s a)
  unfolding ended_by accepted_by unended stopped_by no_refusal
  told_rest s (accepted log) h = none_told
  told_rest s (refused r) h = at_line r h.0 h.2

  told_asked : (lent : Lent) (s : Link) → LineAndField s.refusal → LineAndField (asked R lent s).refusal
  unfolding asked if_long stopped_by
  told_asked lent s p =
      let Told : Link → Type 0 = λ t. LineAndField t.refusal in
      on_test Told (is_open s) (on_test Told (is_sound R s) (on_test Told (is_short lent (announced s)) seven_told p) thirteen_told) p

  told_closed : (lent : Lent) (s : Link) → LineAndField s.refusal → ToldAtLast (close R lent s)
  unfolding close ended unended
  told_closed lent s p =
      let a = asked R lent s in
      on_test ToldAtLast (is_open a)
      (told_rest a (at_rest (due_of a) (line_of a) (rest_of a)) (rest_placed (due_of a) (line_of a) (rest_of a) (omega arith)))
      (told_asked lent s p)

pub placed_rightly_lem : (R : Rules) → FitsLink R → (h : Holding) → LineAndField h.link.refusal → PlacedRightly R h
placed_rightly_lem R F h told =
    record { feeding = λ t. (fed_right F h told t).told; closing = λ lent. told_closed R lent h.link told }
