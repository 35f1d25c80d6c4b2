-- Laws of the two dates: what their readers say, and which is the first.
-- Assumes nothing.
use Rattle.std.specs.Prelude.{Some}
use Prim.Native.Nat.{ℕ, ◌+◌}
use mathlib.Core.Bool.{Bool, true, false, ◌&&◌}
use mathlib.Core.List.{List, [], ◌∷◌}
use mathlib.Core.Path.{◌≡◌, sym, ap, ap₂, ◌∙◌}
use lib.Dec.{leb}
use Rattle.rules.specs.Arguments.{each, part, meets, two_dates}
use Rattle.rules.specs.Fields.{long_date}
use Rattle.rules.specs.Rules.{Rules}
use Rattle.rules.specs.Text.{Text, value, parts}
use Rattle.fields.specs.Field.{text_at, end_of}
use Rattle.fields.proofs.PartLaws.{reach_first, reach_next, text_of}
use Rattle.fields.proofs.Picked.{Kept}
use Rattle.figures.specs.Figure.{long_date_at}
use Rattle.figures.proofs.Picked.{number_picked}

pub date_kept : (t : Text) (at : ℕ) {v e : ℕ} → long_date_at t at ≡ Some (v, e) → Kept long_date t at e × (v ≡ value (text_at t at))
date_kept t at p =
    let q = number_picked long_date t at p in
    (record { holds = q.0; ending = q.2 }, q.1)

abbrev pub dates : List (Text → Bool)
dates = long_date ∷ long_date ∷ []

module _ (R : Rules) (t : Text) where
  pub no_dates : false ≡ each dates (parts t) → false ≡ meets R two_dates t
  unfolding meets
  no_dates e = ap (λ (b : Bool). b && leb (value (part 0 t)) (value (part 1 t))) e

  pub dates_compared : {first last e : ℕ} → Kept long_date t 0 e → first ≡ value (text_at t 0) → last ≡ value (text_at t (e + 1))
      → true ≡ each dates (parts t) → leb first last ≡ meets R two_dates t
  unfolding meets part
  dates_compared {first} {last} {e} k p q h =
      ap₂ leb
      (p ∙ ap value (sym (text_of t 0 0 (reach_first t))))
      (q ∙ ap (λ (n : ℕ). value (text_at t (n + 1))) k.ending ∙ ap value (sym (text_of t 1 (end_of t 0 + 1) (reach_next t 0 0 (reach_first t)))))
      ∙ ap (λ (b : Bool). b && leb (value (part 0 t)) (value (part 1 t))) h
