-- What the desk program shows, by what the judge tells it.
-- Assumes nothing.
use Prim.Native.Nat.{ℕ, ◌≤◌}
use native.Mathlib.Omega.{arith}
use mathlib.Core.List.{List, [], ◌∷◌, ◌++◌, append_assoc}
use mathlib.Core.Path.{◌≡◌, refl, sym, ap, ◌∙◌}
use lib.ListN.{length, drop, length-append}
use Rattle.judge.specs.Judge.{judged_by, judged_of}
use Rattle.std.specs.Prelude.{Result, Ok, Err}
use Rattle.rules.specs.Answers.{Judgement, judged, unjudged, judge, over}
use Rattle.rules.specs.Desk.{shown_line, shown_modes, shown_totals, shown_refusal, shown, desk}
use Rattle.rules.specs.Judging.{mode_numbers}
use Rattle.rules.specs.Rules.{Rules}
use Rattle.rules.specs.Text.{Text, bytes, digits}
use Rattle.rules.specs.declared.Refusal.{Refusal}
use Rattle.rules.specs.declared.Modes.{Modes}
use Rattle.rules.specs.declared.Totals.{Totals}
use Rattle.writer.specs.Shown.{mode_marks, mode_line, mode_line_at, mode_lines}
use Rattle.writer.specs.Written.{texts, Puts}
use Rattle.writer.proofs.WrittenLaws.{puts_as, front_end, front_laid}

-- A refusal's line is three numbers, each with what stands in front of it and one byte behind it.
abbrev part : Text → ℕ → ℕ → Text
part word n last = word ++ digits n ++ (last ∷ [])

pub refusal_parts : (r : Refusal) → part (bytes "REFUSED ") r.number 32 ++ part [] r.line 32 ++ part [] r.field 10 ≡ shown_refusal r
unfolding shown_refusal
refusal_parts r =
    let first : Text = part (bytes "REFUSED ") r.number 32 in
    let second : Text = first ++ digits r.line ++ bytes " " in
    ap (λ (t : Text). t ++ part [] r.field 10) (sym (append_assoc first (digits r.line) (bytes " ")))
    ∙ sym (append_assoc second (digits r.field) (bytes "\n"))

-- All the lines of the modes, one behind the other, are those that are to be shown.
pub all_modes : (modes : List ℕ) {d e : List ℕ} {at n i : ℕ} → i ≡ 11 → Puts d at (texts (mode_line_at modes) i) e n → Puts d at (mode_lines modes) e n
unfolding mode_lines
all_modes modes h p = rw h at p

pub modes_shown : (m : Modes) → mode_lines (mode_numbers m) ≡ shown_modes m
unfolding mode_lines mode_line_at mode_line mode_marks mode_numbers texts shown_modes shown_line
modes_shown m = refl

-- What is shown of each answer of the judge.
shown_by : Result Totals Refusal → Text
shown_by (Ok t) = shown_totals t
shown_by (Err r) = shown_refusal r

by_answer : (j : Judgement) → shown j ≡ shown_by (judged_by j)
unfolding shown judged_by shown_by
by_answer (judged t vs) = refl
by_answer (unjudged r) = refl

module _ (R : Rules) (s : Text) {a : Result Totals Refusal} (told : a ≡ judged_of R R.most_records s) where
  desk_by : desk R s ≡ shown_by a
  desk_by = opened ∙ by_answer (judge R R.most_records s) ∙ closed ∙ ap shown_by (sym told)
    where
      opened : desk R s ≡ shown (judge R R.most_records s)
      opened = unfold desk in refl

      closed : shown_by (judged_by (judge R R.most_records s)) ≡ shown_by (judged_of R R.most_records s)
      closed = unfold judged_of in refl

  pub desk_totals : (t : Totals) → a ≡ Ok t → shown_totals t ≡ desk R s
  unfolding shown_by
  desk_totals t e = sym (desk_by ∙ ap shown_by e)

  pub desk_refusal : (r : Refusal) → a ≡ Err r → shown_refusal r ≡ desk R s
  unfolding shown_by
  desk_refusal r e = sym (desk_by ∙ ap shown_by e)

-- What is answered, and what the slice holds, where the text that was written is the one to be shown.
pub all_shown : {d e : List ℕ} {n : ℕ} {t u : Text} → Puts d 0 t e n → t ≡ u → (n ≡ length u) × (e ≡ over u d)
all_shown p h = let q = puts_as p h in (front_end q, front_laid q)

-- For the caller: what was laid over a list is no longer than the list is afterwards.
pub shown_within : (u : Text) (d : List ℕ) {e : List ℕ} {n : ℕ} → n ≡ length u → e ≡ over u d → n ≤ length e
unfolding over
shown_within u d h p = omega (arith, h, ap length p, length-append u (drop (length u) d))
