-- Laws of what is listed of a line: nothing, or one thing by the number of its kind.
-- Assumes nothing.
use Prim.Native.Nat.{ℕ, ◌+◌, ◌≤◌, ◌<◌}
use native.Mathlib.Omega.{arith}
use mir.Val.{bool_byte}
use mathlib.Core.Path.{◌≡◌, refl, sym, ap, ◌∙◌}
use mathlib.Core.List.{List, [], ◌∷◌, map}
use lib.ListN.{length, set}
use Rattle.std.specs.Prelude.{is_some, Option, Some, None}
use Rattle.rules.specs.Mending.{changes_in}
use Rattle.writer.specs.Written.{Puts}
use Rattle.writer.proofs.WrittenLaws.{puts_as, puts_nothing, written_byte}
use Rattle.mender.specs.declared.Kind.{Kind}
use Rattle.mender.specs.Lines.{kind_number, kinds_of}

-- Nothing is done, or one thing.
pub one_if_some : (done : Option Kind) → (bool_byte (is_some done) ≡ length (kinds_of done)) × (bool_byte (is_some done) ≤ 1)
unfolding kinds_of
one_if_some None = (refl, omega arith)
one_if_some (Some kind) = (refl, omega arith)

pub one_done : {done : Option Kind} {kind : Kind} → done ≡ Some kind → kinds_of done ≡ kind_number kind ∷ []
unfolding kinds_of
one_done e = rw e

-- What is listed of a line.
module _ (kinds lines : List ℕ) (i line : ℕ) where
  abbrev kinds_told : Option Kind → List ℕ
  kinds_told done = map (λ c. c.kind) (changes_in line (kinds_of done))

  abbrev lines_told : Option Kind → List ℕ
  lines_told done = map (λ c. c.line) (changes_in line (kinds_of done))

  pub noted_none : {done : Option Kind} → done ≡ None → i ≤ length kinds → i ≤ length lines → Puts kinds i (kinds_told done) kinds i × Puts lines i (lines_told done) lines i
  unfolding changes_in kinds_of
  noted_none e h g = (puts_nothing (ap kinds_told e) h, puts_nothing (ap lines_told e) g)

  pub noted_one : {done : Option Kind} {kind : Kind} {k : ℕ} → done ≡ Some kind → k ≡ kind_number kind → i < length kinds → i < length lines → Puts kinds i (kinds_told done) (set kinds i k) (i + 1) × Puts lines i (lines_told done) (set lines i line) (i + 1)
  unfolding changes_in kinds_of
  noted_one {kind = kind} {k = k} e n h g = (
    puts_as (record { fits = omega arith; list = written_byte kinds i k h; place = refl }) (ap (λ (m : ℕ). m ∷ []) n ∙ sym (ap kinds_told e)),
    puts_as (record { fits = omega arith; list = written_byte lines i line g; place = refl }) (sym (ap lines_told e)),
  )
