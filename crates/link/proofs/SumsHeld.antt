-- What the records come to, kept in numbers of two and four bytes: all of it fits, and the closing makes the totals of it.
-- Assumes nothing.
use Prim.Native.Nat.{ℕ, ◌≤◌, ◌<◌}
use native.Mathlib.Omega.{arith}
use native.Mathlib.Nat.{mul-le-mul_right}
use mathlib.Core.Path.{◌≡◌, refl, sym, ap, subst, ◌∙◌}
use mathlib.Core.Bool.{true}
use mathlib.Core.List.{List, [], ◌∷◌, ◌++◌}
use lib.ListN.{length}
use Rattle.rules.specs.declared.Totals.{Totals}
use Rattle.rules.specs.declared.Verdict.{Verdict}
use Rattle.rules.specs.Text.{value}
use Rattle.rules.specs.Rules.{Rules}
use Rattle.rules.specs.Fields.{Qso}
use Rattle.rules.specs.Log.{record_rules}
use Rattle.rules.specs.Judging.{verdict_of, verdicts, totals, modes_together, zero_modes, zero_totals}
use Rattle.rules.specs.Session.{declared_rule}
use Rattle.rules.proofs.Tests.{holds}
use Rattle.rules.proofs.Classes.{length_verdicts}
use Rattle.places.specs.declared.Declared.{Declared}
use Rattle.judge.specs.declared.Counts.{Counts}
use Rattle.judge.specs.declared.Sums.{Sums}
use Rattle.judge.specs.Bounds.{most_worth}
use Rattle.judge.specs.Count.{mode_of, modes_in, add_record, add_records, as_declared}
use Rattle.judge.specs.Narrow.{no_counts, low, low_four, tally_in, modes_of, sums_in, totals_in, counts_of}
use Rattle.judge.specs.Sums.{sums_of, totals_kept}
use Rattle.judge.proofs.CountLaws.{closed_totals}
use Rattle.judge.proofs.SumLaws.{totals_closed}
use Rattle.session.specs.Entry.{credited_from}
use Rattle.session.proofs.ComeLaws.{Comes, came_to, comes_all, sound_came}
use Rattle.session.proofs.HoldLaws.{closing_came, came_more}
use Rattle.link.specs.Keeping.{FitsLink}

low_small : (n : ℕ) → n < 65_536 → low n ≡ n
low_small n h = omega arith

four_small : (n : ℕ) → n < 4_294_967_296 → low_four n ≡ n
four_small n h = omega arith

-- Before any record.
pub sums_none : (R : Rules) → totals_in 0 no_counts ≡ came_to R []
unfolding totals_in tally_in modes_of modes_in no_counts came_to add_records verdicts zero_totals zero_modes
sums_none R = refl

module _ {R : Rules} (F : FitsLink R) (points : ℕ) (counts : Counts) where
  -- One record more: each number of the totals fits its bytes.
  module _ (worth mode : ℕ) (v : Verdict) where
    abbrev after : Totals
    after = add_record (totals_in points counts) worth mode v

    module _ (n : ℕ) (few : n ≤ R.most_records) (h : Comes R n after) where
      within : (m : ℕ) → m ≤ n → low m ≡ m
      within m k = low_small m (omega (arith, F.records, few, k))

      points_within : after.points < 4_294_967_296
      points_within =
          let most : after.credited ≤ R.most_records = omega (arith, h.count, few) in
          omega (arith, h.most, mul-le-mul_right (most_worth R) most, F.points)

      mode_within : (m : ℕ) → m ≤ modes_together after.modes → low m ≡ m
      mode_within m k = within m (omega (arith, k, h.modes_all, h.count))

      all_fits : totals_in (low_four after.points) (counts_of after) ≡ after
      unfolding totals_in tally_in modes_of modes_in counts_of add_record modes_together
      all_fits = λ i.
          record {
            credited = within after.credited (omega (arith, h.count)) i;
            voids = within after.voids (omega (arith, h.count)) i;
            duplicates = within after.duplicates (omega (arith, h.count)) i;
            errors = within after.errors (omega (arith, h.count)) i;
            points = four_small after.points points_within i;
            squares = within after.squares (omega (arith, h.squares, h.count)) i;
            exchanges = within after.exchanges (omega (arith, h.exchanges, h.count)) i;
            countries = within after.countries (omega (arith, h.countries, h.count)) i;
            squarebonus = 0;
            exchangebonus = 0;
            countrybonus = 0;
            total = 0;
            modes = record {
              code0 = mode_within after.modes.code0 (omega arith) i;
              code1 = mode_within after.modes.code1 (omega arith) i;
              code2 = mode_within after.modes.code2 (omega arith) i;
              code3 = mode_within after.modes.code3 (omega arith) i;
              code4 = mode_within after.modes.code4 (omega arith) i;
              code5 = mode_within after.modes.code5 (omega arith) i;
              code6 = mode_within after.modes.code6 (omega arith) i;
              code7 = mode_within after.modes.code7 (omega arith) i;
              code8 = mode_within after.modes.code8 (omega arith) i;
              code9 = mode_within after.modes.code9 (omega arith) i;
              blank = mode_within after.modes.blank (omega arith) i;
            };
          }

  module _ (qs : List Qso) (are : totals_in points counts ≡ came_to R qs) where
    -- They are those of one record more.
    pub sums_grow : (q : Qso) (worth mode : ℕ) (v : Verdict) → record_rules R (qs ++ (q ∷ [])) ≡ true → length (qs ++ (q ∷ [])) ≤ R.most_records → worth ≡ value q.points → mode ≡ mode_of q → v ≡ verdict_of R (credited_from R [] qs) q →
        totals_in (low_four (after worth mode v).points) (counts_of (after worth mode v)) ≡ came_to R (qs ++ (q ∷ []))
    sums_grow q worth mode v ruled few e f g =
        let all = qs ++ (q ∷ []) in
        let same : after worth mode v ≡ came_to R all = (λ i. add_record (are i) (e i) (f i) (g i)) ∙ sym (came_more R qs q) in
        all_fits worth mode v (length all) few (subst (Comes R (length all)) (sym same) (comes_all R all ruled)) ∙ same

    -- The totals of them, with what is declared.
    of_totals : sums_in points counts ≡ sums_of (came_to R qs)
    unfolding sums_in sums_of totals_in tally_in
    of_totals = ap sums_of are

    pub sums_close : (d : Declared) → record_rules R qs ≡ true → length qs ≤ R.most_records → declared_rule R (as_declared d) ≡ true → totals_kept R (sums_in points counts) d ≡ totals R (as_declared d) qs
    unfolding totals came_to
    sums_close d ruled few declared =
        ap (λ (s : Sums). totals_kept R s d) of_totals
        ∙ sym (totals_closed R (sums_of (came_to R qs)) d (sound_came R (length qs) (came_to R qs) (comes_all R qs ruled) few) declared)
        ∙ closing_came (came_to R qs) d
        ∙ closed_totals R d qs (verdicts R qs) (length_verdicts R qs) (holds ruled)
