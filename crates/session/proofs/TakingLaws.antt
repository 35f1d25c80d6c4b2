-- A line is taken: who held what judging the records gives holds it of one record more.
-- Assumes nothing.
use Prim.Native.Nat.{ℕ, ◌+◌, ◌*◌, ◌/◌, ◌≤◌, ◌<◌, min}
use native.Mathlib.Omega.{arith}
use mathlib.Core.Path.{◌≡◌, refl, sym, ap, ◌∙◌}
use mathlib.Core.Bool.{Bool, true, false, cond, ◌&&◌}
use mathlib.Core.List.{List, [], ◌∷◌, ◌++◌}
use lib.Dec.{ltb}
use lib.ListN.{length, take, get_or, set, length-append, length-set}
use borrow.Author.Tests.{ltb-true}
use Rattle.rules.specs.declared.Verdict.{Verdict}
use Rattle.rules.specs.Text.{Text, parts, value}
use Rattle.rules.specs.Rules.{Rules}
use Rattle.rules.specs.Fields.{Qso, field_rules, qso_of}
use Rattle.rules.specs.Log.{conjunction}
use Rattle.rules.specs.Judging.{verdict_of, verdict_number}
use Rattle.rules.specs.Reading.{keeps, record_rule}
use Rattle.rules.specs.Session.{session, has_place}
use Rattle.rules.proofs.SessionLaws.{rules_more}
use Rattle.rules.proofs.Tests.{and_l, and_r}
use Rattle.rules.proofs.FieldLaws.{record_is}
use Rattle.places.specs.declared.Declared.{Declared}
use Rattle.judge.specs.declared.Sums.{Sums}
use Rattle.judge.specs.Count.{mode_of, add_record, as_declared}
use Rattle.judge.specs.Sums.{sums_of, verdict_in, more_sums}
use Rattle.session.specs.declared.Session.{Session}
use Rattle.session.specs.Entry.{credited_from, FitsBytes, record_of, keeps_rules, is_kept, said_of, told_line, verdicts_kept, with_bytes, bytes_kept}
use Rattle.session.specs.Session.{present, is_ready, is_taken, with_record, with_taken, verdicts_taken, kept_taken}
use Rattle.session.proofs.ComeLaws.{came_to, worth_within}
use Rattle.session.proofs.BackLaws.{said_back, mode_told_lem, more_came}
use Rattle.session.proofs.LineLaws.{Stores, line_said, line_verdicts, line_bytes_lem, line_keeps_length}
use Rattle.session.proofs.HoldLaws.{came_more, numbers_of, Holds, comes, counted, taken_by}

-- # Of any session and any slices

module _ (R : Rules) (s : Session) (l : Text) (told kept : List ℕ) where
  one_test : {A : Type 0} (a b : Bool) (x y : A) → cond a (cond b x y) y ≡ cond (a && b) x y
  one_test true b x y = refl
  one_test false b x y = refl

  -- The slices change exactly where the line is taken.
  pub verdicts_by : verdicts_taken R s l told kept ≡ cond (is_taken R s l told kept) (set told (present s) (verdict_number (said_of R l (present s) 28 kept))) told
  unfolding verdicts_taken verdicts_kept is_taken
  verdicts_by = one_test (is_ready R s) (is_kept R l (present s) 28 told kept) (set told (present s) (verdict_number (said_of R l (present s) 28 kept))) told

  pub kept_by : kept_taken R s l told kept ≡ cond (is_taken R s l told kept) (with_bytes R l (present s) 28 kept) kept
  unfolding kept_taken bytes_kept is_taken
  kept_by = one_test (is_ready R s) (is_kept R l (present s) 28 told kept) (with_bytes R l (present s) 28 kept) kept

  -- And then what is told of it is counted.
  line_with : with_taken R s l kept ≡ with_record R s (value (record_of l).points) (get_or (record_of l).mode 0 0) (verdict_number (said_of R l (present s) 28 kept))
  unfolding with_taken told_line
  line_with = refl

-- # Of one that holds what judging gives

module _ {R : Rules} (B : FitsBytes R) {room : ℕ} (d : Declared) (qs : List Qso) (told kept : List ℕ) (h : Holds R room d qs told kept) (l : Text)
    (rule : record_rule R l ≡ keeps) (place : has_place R room (session (as_declared d) qs) ≡ true) where
  abbrev n : ℕ
  n = length qs

  abbrev s : Session
  s = numbers_of R d qs

  abbrev q : Qso
  q = qso_of (parts l)

  abbrev v : Verdict
  v = verdict_of R (credited_from R [] qs) q

  abbrev with : List Qso
  with = qs ++ (q ∷ [])

  abbrev pub told_more : List ℕ
  told_more = set told n (verdict_number (said_of R l n 28 kept))

  abbrev pub kept_more : List ℕ
  kept_more = with_bytes R l n 28 kept

  ruled : conjunction (field_rules R q) ≡ true
  ruled = (record_is R l rule).rules

  stores : Stores R 28 qs kept
  stores = record { wide = omega arith; narrow = omega arith; ruled = h.ruled; are = h.bytes_are }

  pub is_taken_lem : is_taken R s l told kept ≡ true
  is_taken_lem = taken_by R d qs told kept h l ∙ (λ i. keeps_rules (rule i) && place i)

  said : said_of R l (present s) 28 kept ≡ v
  said =
      ap (λ (m : ℕ). said_of R l m 28 kept) (counted R d qs told kept h) ∙ line_said B stores l rule

  below_most : n < R.most_records
  unfolding has_place
  below_most = ltb-true n R.most_records (and_l (ltb n R.most_records) (ltb n room) place)

  below_room : n < room
  unfolding has_place
  below_room = ltb-true n room (and_r (ltb n R.most_records) (ltb n room) place)

  -- The numbers.
  pub numbers_more : with_taken R s l kept ≡ numbers_of R d with
  unfolding with_record record_of
  numbers_more =
      let worth = value q.points in
      let mode = get_or q.mode 0 0 in
      let number = verdict_number (said_of R l (present s) 28 kept) in
      let counts : more_sums R (sums_of (came_to R qs)) worth mode number ≡ sums_of (came_to R with) =
      more_came R n (came_to R qs) (comes R d qs told kept h) below_most worth mode number (worth_within R q ruled)
      ∙ (λ i. sums_of (add_record (came_to R qs) worth (mode_told_lem q i) (verdict_in (verdict_number (said i)))))
      ∙ ap (λ (w : Verdict). sums_of (add_record (came_to R qs) worth (mode_of q) w)) (said_back R (credited_from R [] qs) q)
      ∙ ap sums_of (sym (came_more R qs q)) in
      line_with R s l told kept ∙ ap {B = Session} (λ (c : Sums). record { declared = d; sums = c }) counts

  -- The slices.
  pub told_more_lem : verdicts_taken R s l told kept ≡ told_more
  told_more_lem =
      verdicts_by R s l told kept
      ∙ ap (λ (b : Bool). cond b (set told (present s) (verdict_number (said_of R l (present s) 28 kept))) told) is_taken_lem
      ∙ ap (λ (m : ℕ). set told m (verdict_number (said_of R l m 28 kept))) (counted R d qs told kept h)

  pub kept_more_lem : kept_taken R s l told kept ≡ kept_more
  kept_more_lem =
      kept_by R s l told kept
      ∙ ap (λ (b : Bool). cond b (with_bytes R l (present s) 28 kept) kept) is_taken_lem
      ∙ ap (λ (m : ℕ). with_bytes R l m 28 kept) (counted R d qs told kept h)

  long_more : length with ≡ n + 1
  long_more = length-append qs (q ∷ [])

  kept_room : n * 28 + 28 ≤ length kept
  kept_room = omega (arith, h.rooms, below_room)

  pub holds_more : Holds R room d with told_more kept_more
  holds_more =
      record {
        declared = h.declared;
        ruled = rules_more R q qs h.ruled ruled;
        few = omega (arith, long_more, below_most);
        verdicts_are =
            ap (λ (m : ℕ). take m told_more) long_more
            ∙ line_verdicts B stores l rule told h.verdicts_are (omega (arith, h.rooms, below_room));
        bytes_are =
            ap (λ (m : ℕ). take (m * 28) kept_more) long_more
            ∙ line_bytes_lem B stores l rule kept_room;
        rooms = (λ i. min (length-set told n (verdict_number (said_of R l n 28 kept)) i) (line_keeps_length B stores l rule kept_room i / 28)) ∙ h.rooms;
        inside = omega (arith, long_more, below_room);
      }
