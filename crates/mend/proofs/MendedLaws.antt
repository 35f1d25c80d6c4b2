-- What was handed over lies within the slices that were lent for it.
-- Assumes nothing.
use Prim.Native.Nat.{ℕ, ◌≤◌}
use native.Mathlib.Omega.{arith}
use mathlib.Core.Path.{◌≡◌, sym, ◌∙◌}
use mathlib.Core.List.{List}
use lib.ListN.{length, length-map}
use Rattle.std.specs.Prelude.{Ok}
use Rattle.mender.specs.declared.Mended.{Mended}
use Rattle.mender.specs.Answer.{mended_by}
use Rattle.rules.specs.Answers.{over}
use Rattle.rules.specs.Mending.{Change, Mending, mended, unmended, bytes_of_mending, kinds_of_mending, lines_of_mending}
use Rattle.writer.proofs.ShownLaws.{shown_within}

-- How long the mended log and the list are.
lengths : (m : Mending) {a : Mended} → Ok a ≡ mended_by m → (a.length ≡ length (bytes_of_mending m)) × (a.changes ≡ length (kinds_of_mending m)) × (a.changes ≡ length (lines_of_mending m))
unfolding mended_by bytes_of_mending kinds_of_mending lines_of_mending
lengths (mended t cs) {a} e =
    let long : a.length ≡ length t = cc in
    let many : a.changes ≡ length cs = cc in
    (long, many ∙ sym (length-map cs (λ (c : Change). c.kind)), many ∙ sym (length-map cs (λ (c : Change). c.line)))
lengths (unmended r) e = let z : ◌≡◌ {A = ℕ} 0 1 = cc in absurd (omega arith)

module _ (m : Mending) {a : Mended} (told : Ok a ≡ mended_by m) where
  pub text_within : (out : List ℕ) {out' : List ℕ} → out' ≡ over (bytes_of_mending m) out → a.length ≤ length out'
  text_within out e = shown_within (bytes_of_mending m) out (lengths m told).0 e

  pub kinds_within : (kinds : List ℕ) {kinds' : List ℕ} → kinds' ≡ over (kinds_of_mending m) kinds → a.changes ≤ length kinds'
  kinds_within kinds e = shown_within (kinds_of_mending m) kinds (lengths m told).1 e

  pub lines_within_lem : (lines : List ℕ) {lines' : List ℕ} → lines' ≡ over (lines_of_mending m) lines → a.changes ≤ length lines'
  lines_within_lem lines e = shown_within (lines_of_mending m) lines (lengths m told).2 e
