-- One record more, and one less: what is said, kept and summed of the records before stays.
-- Assumes nothing.
use Prim.Native.Nat.{ℕ}
use native.Mathlib.Omega.{arith}
use mathlib.Core.Path.{◌≡◌, refl, sym, ap, ◌∙◌}
use mathlib.Core.List.{List, [], ◌∷◌, ◌++◌, append-nil, append_assoc}
use lib.ListN.{length, take}
use Rattle.rules.specs.declared.Verdict.{Verdict}
use Rattle.rules.specs.declared.Totals.{Totals}
use Rattle.rules.specs.Text.{value}
use Rattle.rules.specs.Rules.{Rules}
use Rattle.rules.specs.Fields.{Qso}
use Rattle.rules.specs.Judging.{verdict_of, credited_after, verdicts_after, verdicts}
use Rattle.judge.specs.Count.{mode_of, add_record, add_records}
use Rattle.session.specs.Entry.{kept_of, bytes_of, credited_from}

module _ (R : Rules) (q : Qso) where
  after_more : (credited qs : List Qso) → verdicts_after R credited (qs ++ (q ∷ [])) ≡ verdicts_after R credited qs ++ (verdict_of R (credited_from R credited qs) q ∷ [])
  unfolding verdicts_after credited_from
  after_more credited [] = refl
  after_more credited (p ∷ qs) =
      let v = verdict_of R credited p in
      ap {B = List Verdict} (λ vs. v ∷ vs) (after_more (credited_after v.class p credited) qs)

  pub verdicts_more : (qs : List Qso) → verdicts R (qs ++ (q ∷ [])) ≡ verdicts R qs ++ (verdict_of R (credited_from R [] qs) q ∷ [])
  unfolding verdicts
  verdicts_more qs = after_more [] qs

  pub bytes_more : (width : ℕ) (v : Verdict) (qs : List Qso) (vs : List Verdict) → length vs ≡ length qs → bytes_of R width (qs ++ (q ∷ [])) (vs ++ (v ∷ [])) ≡ bytes_of R width qs vs ++ take width (kept_of R v.class q)
  unfolding bytes_of
  bytes_more width v [] [] e = append-nil (take width (kept_of R v.class q))
  bytes_more width v [] (w ∷ vs) e = absurd (omega arith)
  bytes_more width v (p ∷ qs) [] e = absurd (omega arith)
  bytes_more width v (p ∷ qs) (w ∷ vs) e =
      ap (λ (l : List ℕ). take width (kept_of R w.class p) ++ l) (bytes_more width v qs vs (omega arith))
      ∙ sym (append_assoc (take width (kept_of R w.class p)) (bytes_of R width qs vs) (take width (kept_of R v.class q)))

pub sums_more : (q : Qso) (v : Verdict) (t : Totals) (qs : List Qso) (vs : List Verdict) → length vs ≡ length qs → add_records t (qs ++ (q ∷ [])) (vs ++ (v ∷ [])) ≡ add_record (add_records t qs vs) (value q.points) (mode_of q) v
unfolding add_records
sums_more q v t [] [] e = refl
sums_more q v t [] (w ∷ vs) e = absurd (omega arith)
sums_more q v t (p ∷ qs) [] e = absurd (omega arith)
sums_more q v t (p ∷ qs) (w ∷ vs) e = sums_more q v (add_record t (value p.points) (mode_of p) w) qs vs (omega arith)
