-- What a caller has who holds what judging some records gives: how many there are, their verdicts and their totals, and whether there is a place.
-- Assumes nothing.
use Prim.Native.Nat.{ℕ, ◌*◌, ◌/◌, ◌≤◌, min}
use native.Mathlib.Omega.{arith}
use mathlib.Core.Path.{◌≡◌, refl, sym, ap, ◌∙◌}
use mathlib.Core.Bool.{Bool, true, false, ◌&&◌, and-true, and-false}
use mathlib.Core.List.{List, [], ◌∷◌, ◌++◌, map}
use lib.Dec.{ltb}
use lib.ListN.{length, take}
use borrow.Author.Tests.{lt-ltb, le-ltb, ltb-true, ltb-false}
use Rattle.rules.specs.declared.Totals.{Totals}
use Rattle.rules.specs.declared.Verdict.{Verdict}
use Rattle.rules.specs.Text.{Text, value}
use Rattle.rules.specs.Rules.{Rules}
use Rattle.rules.specs.Fields.{Qso}
use Rattle.rules.specs.Log.{conjunction, record_rules}
use Rattle.rules.specs.Judging.{verdict_of, verdict_number, totals, zero_totals, mode_numbers}
use Rattle.rules.specs.Judging.{verdicts as judged}
use Rattle.rules.specs.Reading.{record_rule}
use Rattle.rules.specs.Session.{session, declared_rule, has_place, session_verdicts, session_totals}
use Rattle.rules.proofs.Tests.{holds, and_i}
use Rattle.rules.proofs.Classes.{length_verdicts}
use Rattle.places.specs.declared.Declared.{Declared}
use Rattle.judge.specs.Count.{mode_of, modes_in, add_record, add_records, closing, as_declared}
use Rattle.judge.specs.Sums.{summed, sums_of, sound_sums}
use Rattle.judge.proofs.CountLaws.{closed_totals}
use Rattle.judge.proofs.SumLaws.{totals_closed}
use Rattle.session.specs.declared.Session.{Session}
use Rattle.session.specs.Entry.{bytes_of, credited_from, keeps_rules, has_place_for, is_kept}
use Rattle.session.specs.Session.{reachable, present, totals_now, is_ready, is_taken}
use Rattle.session.specs.Keeping.{Holding, Agrees}
use Rattle.session.proofs.MoreLaws.{verdicts_more, sums_more}
use Rattle.session.proofs.ComeLaws.{Comes, came_to, comes_all, sound_came}

-- The totals of sums are those that the sums are of.
pub closing_came : (t : Totals) (d : Declared) → closing (summed (sums_of t)) d ≡ closing t d
unfolding closing sums_of modes_in mode_numbers
closing_came t d = refl

below_both : (n a b : ℕ) → (ltb n a && ltb n b) ≡ ltb n (min a b)
below_both n a b = by (ltb n a) (ltb n b) refl refl
  where
    by : (x y : Bool) → ltb n a ≡ x → ltb n b ≡ y → (x && y) ≡ ltb n (min a b)
    by true true e f = sym (lt-ltb n (min a b) (omega (arith, ltb-true n a e, ltb-true n b f)))
    by true false e f = sym (le-ltb n (min a b) (omega (arith, ltb-false n b f)))
    by false y e f = sym (le-ltb n (min a b) (omega (arith, ltb-false n a e)))

module _ (R : Rules) where
  -- What these records come to with one more.
  pub came_more : (qs : List Qso) (q : Qso) → came_to R (qs ++ (q ∷ [])) ≡ add_record (came_to R qs) (value q.points) (mode_of q) (verdict_of R (credited_from R [] qs) q)
  unfolding came_to
  came_more qs q =
      ap (λ (vs : List Verdict). add_records zero_totals (qs ++ (q ∷ [])) vs) (verdicts_more R q qs)
      ∙ sums_more q (verdict_of R (credited_from R [] qs) q) zero_totals qs (judged R qs) (length_verdicts R qs)

  -- The numbers of a session in which so much is declared and these records are present.
  abbrev pub numbers_of : Declared → List Qso → Session
  numbers_of d qs = record { declared = d; sums = sums_of (came_to R qs) }

  abbrev pub holding_of : Declared → List Qso → List ℕ → List ℕ → Holding
  holding_of d qs told kept = record { numbers = numbers_of d qs; verdicts = told; kept = kept }

  -- The slices hold what such a session keeps, and have room for so many records.
  pub record Holds (room : ℕ) (d : Declared) (qs : List Qso) (told kept : List ℕ) : Type 0 where
    pub declared : declared_rule R (as_declared d) ≡ true
    pub ruled : record_rules R qs ≡ true
    pub few : length qs ≤ R.most_records
    pub verdicts_are : take (length qs) told ≡ map verdict_number (judged R qs)
    pub bytes_are : take (length qs * 28) kept ≡ bytes_of R 28 qs (judged R qs)
    pub rooms : min (length told) (length kept / 28) ≡ room
    pub inside : length qs ≤ room

  module _ {room : ℕ} (d : Declared) (qs : List Qso) (told kept : List ℕ) (h : Holds room d qs told kept) where
    abbrev n : ℕ
    n = length qs

    abbrev s : Session
    s = numbers_of d qs

    pub comes : Comes R n (came_to R qs)
    comes = comes_all R qs h.ruled

    pub counted : present s ≡ n
    unfolding sums_of
    counted = comes.count

    sound : sound_sums R (sums_of (came_to R qs)) ≡ true
    sound = sound_came R n (came_to R qs) comes h.few

    pub reached : reachable R s ≡ true
    unfolding reachable
    reached = and_i sound h.declared

    totals_are_lem : totals_now R s ≡ totals R (as_declared d) qs
    unfolding totals_now totals came_to
    totals_are_lem =
        sym (totals_closed R (sums_of (came_to R qs)) d sound h.declared)
        ∙ closing_came (came_to R qs) d
        ∙ closed_totals R d qs (judged R qs) (length_verdicts R qs) (holds h.ruled)

    pub agrees : Agrees R (holding_of d qs told kept) (session (as_declared d) qs)
    unfolding session_verdicts session_totals
    agrees = record { reached = reached; count = counted; verdicts_are = h.verdicts_are; totals_are = totals_are_lem }

    -- # Whether a line is taken

    ready : is_ready R s ≡ ltb n R.most_records
    unfolding is_ready
    ready = (λ i. reached i && ltb (counted i) R.most_records)

    place_there : has_place_for n 28 (length told) (length kept) ≡ ltb n room
    unfolding has_place_for conjunction
    place_there =
        ap (λ (b : Bool). ltb n (length told) && b) (and-true (ltb n (length kept / 28)))
        ∙ below_both n (length told) (length kept / 28)
        ∙ ap (ltb n) h.rooms

    pub taken_by : (l : Text) → is_taken R s l told kept ≡ (keeps_rules (record_rule R l) && has_place R room (session (as_declared d) qs))
    unfolding is_taken is_kept has_place
    taken_by l =
        (λ i. ready i && (keeps_rules (record_rule R l) && has_place_for (counted i) 28 (length told) (length kept)))
        ∙ by (keeps_rules (record_rule R l))
      where
        by : (b : Bool) → (ltb n R.most_records && (b && has_place_for n 28 (length told) (length kept))) ≡ (b && (ltb n R.most_records && ltb n room))
        by true = ap (λ (b : Bool). ltb n R.most_records && b) place_there
        by false = and-false (ltb n R.most_records)
