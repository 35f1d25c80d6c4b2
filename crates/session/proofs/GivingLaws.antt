-- The last record is given back: who held what judging the records gives holds it of those before the last.
-- Assumes nothing.
use Prim.Native.Nat.{ℕ, ◌+◌, ◌-◌, ◌*◌, ◌/◌}
use native.Mathlib.Omega.{arith}
use native.Mathlib.Nat.{add-zero}
use mathlib.Core.Path.{◌≡◌, refl, sym, ap, ◌∙◌}
use mathlib.Core.Bool.{Bool, true, cond}
use mathlib.Core.List.{List, [], ◌∷◌, ◌++◌, map, map-append}
use lib.ListN.{length, take, drop, get_or, replicate, length-append, length-map}
use lib.Seq.{take_all}
use borrow.Author.Tests.{le-leb, lt-ltb}
use Rattle.rules.specs.declared.Class.TheVariants.{Credited}
use Rattle.rules.specs.declared.Totals.{Totals}
use Rattle.rules.specs.declared.Verdict.{Verdict}
use Rattle.rules.specs.Text.{Text, value}
use Rattle.rules.specs.Rules.{Rules}
use Rattle.rules.specs.Fields.{Qso, field_rules}
use Rattle.rules.specs.Log.{conjunction, record_rules}
use Rattle.rules.specs.Judging.{is, verdict_of, verdict_number}
use Rattle.rules.specs.Judging.{verdicts as judged}
use Rattle.rules.proofs.SessionLaws.{rules_less}
use Rattle.rules.proofs.Tests.{and_i}
use Rattle.rules.proofs.Classes.{length_verdicts}
use Rattle.places.specs.declared.Declared.{Declared}
use Rattle.judge.specs.Count.{mode_place, mode_of}
use Rattle.judge.specs.Sums.{sums_of, verdict_in}
use Rattle.session.specs.declared.Session.{Session}
use Rattle.session.specs.Entry.{points_in, entry_of, kept_of, bytes_of, credited_from, FitsBytes}
use Rattle.session.specs.Session.{present, refused_by, accepted, brought_by, last_verdict, last_worth, last_mode, last_brought, slices_reach, taken_off, given_back}
use Rattle.session.proofs.MoreLaws.{verdicts_more, bytes_more}
use Rattle.session.proofs.EntryLaws.{length_entry, length_front, entry_points, entry_mode}
use Rattle.session.proofs.JudgedLaws.{length_bytes}
use Rattle.session.proofs.ComeLaws.{came_to, mode_placed}
use Rattle.session.proofs.BackLaws.{said_back, mode_told_lem, taken_off_lem}
use Rattle.session.proofs.SliceLaws.{front_less, drop_last, get_d_last}
use Rattle.session.proofs.HoldLaws.{came_more, numbers_of, Holds, counted, reached}

module _ {R : Rules} (B : FitsBytes R) {room : ℕ} (d : Declared) (qs : List Qso) (q : Qso) (told kept : List ℕ) (h : Holds R room d (qs ++ (q ∷ [])) told kept) where
  abbrev n : ℕ
  n = length qs

  abbrev with : List Qso
  with = qs ++ (q ∷ [])

  abbrev s : Session
  s = numbers_of R d with

  abbrev v : Verdict
  v = verdict_of R (credited_from R [] qs) q

  abbrev entry : List ℕ
  entry = take 28 (kept_of R v.class q)

  abbrev numbers : List ℕ
  numbers = map verdict_number (judged R qs)

  long : length with ≡ n + 1
  long = length-append qs (q ∷ [])

  all_ruled : record_rules R qs ≡ true
  all_ruled = (rules_less R q qs h.ruled).0

  ruled : conjunction (field_rules R q) ≡ true
  ruled = (rules_less R q qs h.ruled).1

  last_place : present s - 1 ≡ n
  last_place = omega (arith, counted R d with told kept h, long)

  -- # What the slices say of the last record

  told_front : take (n + 1) told ≡ numbers ++ (verdict_number v ∷ [])
  told_front =
      ap (λ (m : ℕ). take m told) (sym long)
      ∙ h.verdicts_are
      ∙ ap (map verdict_number) (verdicts_more R q qs)
      ∙ map-append verdict_number (judged R qs) (v ∷ [])

  told_long : length numbers ≡ n
  told_long = length-map (judged R qs) verdict_number ∙ length_verdicts R qs

  kept_front : take (n * 28 + 28) kept ≡ bytes_of R 28 qs (judged R qs) ++ entry
  kept_front =
      let bytes : n * 28 + 28 ≡ length with * 28 = omega (arith, long) in
      ap (λ (m : ℕ). take m kept) bytes
      ∙ h.bytes_are
      ∙ ap (bytes_of R 28 with) (verdicts_more R q qs)
      ∙ bytes_more R q 28 v qs (judged R qs) (length_verdicts R qs)

  kept_long : length (bytes_of R 28 qs (judged R qs)) ≡ n * 28
  kept_long = length_bytes B 28 (omega arith) (omega arith) qs (judged R qs) all_ruled (length_verdicts R qs)

  verdict_last : last_verdict s told ≡ v
  unfolding last_verdict
  verdict_last =
      ap (λ (m : ℕ). verdict_in (get_or told m 0)) (last_place ∙ sym (add-zero n))
      ∙ ap verdict_in (get_d_last told numbers (verdict_number v ∷ []) n 1 told_front told_long 0 (omega arith))
      ∙ said_back R (credited_from R [] qs) q

  -- Of a credited one the bytes say what it is worth, and its mode.
  module _ (credited : is Credited v.class ≡ true) where
    is_entry : entry ≡ entry_of R q
    unfolding kept_of
    is_entry =
        take_all 28 (kept_of R v.class q) (omega (arith, length_entry B q ruled v.class))
        ∙ ap (λ (b : Bool). cond b (entry_of R q) (replicate 28 0)) credited

    worth_last : last_worth s kept ≡ value q.points
    unfolding last_worth
    worth_last =
        let rest = drop (n * 28 + 28) kept in
        ap (λ (m : ℕ). points_in (drop (m * 28 + 24) kept)) last_place
        ∙ ap points_in (drop_last kept (bytes_of R 28 qs (judged R qs)) entry (n * 28) 28 kept_front kept_long 24)
        ∙ ap (λ (t : Text). points_in (drop 24 (t ++ rest))) is_entry
        ∙ entry_points B q ruled rest

    mode_last : last_mode s kept ≡ mode_of q
    unfolding last_mode
    mode_last =
        ap (λ (m : ℕ). mode_place (get_or kept (m * 28 + 27) 0)) last_place
        ∙ ap mode_place
        (get_d_last kept (bytes_of R 28 qs (judged R qs)) entry (n * 28) 28 kept_front kept_long 27 (omega (arith, length_front B q ruled 28 (omega arith) v.class))
        ∙ ap (λ (t : Text). get_or t 27 0) is_entry
        ∙ entry_mode B q ruled)
        ∙ mode_told_lem q

  -- # So it is taken off

  reach_all : slices_reach R s (length told) (length kept) ≡ true
  unfolding slices_reach conjunction
  reach_all =
      let many = counted R d with told kept h in
      and_i (reached R d with told kept h)
      (and_i (lt-ltb 0 (present s) (omega (arith, many, long)))
      (and_i (le-leb (present s) (length told) (omega (arith, many, h.rooms, h.inside)))
      (and_i (le-leb (present s) (length kept / 28) (omega (arith, many, h.rooms, h.inside))) refl)))

  pub given : given_back R s told kept ≡ accepted (numbers_of R d qs)
  unfolding given_back last_brought
  given =
      let worth = last_worth s kept in
      let mode = last_mode s kept in
      ap (λ (b : Bool). cond b (taken_off s (brought_by worth (last_verdict s told)) mode) (refused_by s 12 0)) reach_all
      ∙ ap (λ (w : Verdict). taken_off s (brought_by worth w) mode) verdict_last
      ∙ ap (λ (t : Totals). taken_off (record { declared = d; sums = sums_of t }) (brought_by worth v) mode) (came_more R qs q)
      ∙ taken_off_lem (came_to R qs) (value q.points) (mode_of q) v d worth mode (mode_placed R q) worth_last mode_last

  pub holds_less : Holds R room d qs told kept
  holds_less =
      record {
        declared = h.declared;
        ruled = all_ruled;
        few = omega (arith, h.few, long);
        verdicts_are = front_less told numbers (verdict_number v ∷ []) n 1 told_front told_long;
        bytes_are = front_less kept (bytes_of R 28 qs (judged R qs)) entry (n * 28) 28 kept_front kept_long;
        rooms = h.rooms;
        inside = omega (arith, h.inside, long);
      }
