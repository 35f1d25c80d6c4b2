-- Where a line of a chewed log lies: what the lines in front of it say of it, and that they say one thing alone. So the count line and the record
-- lines are those that the mender takes for them.
-- Assumes nothing.
use Prim.Native.Nat.{ℕ, zero, suc, ◌≤◌, ◌<◌}
use mathlib.Core.Path.{◌≡◌, refl, subst}
use mathlib.Core.Bool.{Bool, true, false, cond}
use mathlib.Core.List.{List, [], ◌∷◌}
use lib.Dec.{T}
use lib.ListN.{length, get_or}
use native.Mathlib.Decide.{dec_lt}
use native.Mathlib.Omega.{arith}
use Rattle.rules.specs.declared.Region.{Region}
use Rattle.rules.specs.declared.Region.TheVariants.{Head, Remarks, Records}
use Rattle.rules.specs.Text.{Text, same, begins}
use Rattle.rules.specs.Log.{remarks_line, count_start}
use Rattle.rules.specs.Mending.{region_after}
use Rattle.rules.specs.MendingDemands.{RemarksLineAt, CountLineAt, RecordLineAt}
use Rattle.rules.proofs.Tests.{so, holds, clash}
use Rattle.rules.proofs.TextLaws.{same_eq, same_of_eq}

-- Where the line at a place lies, if the first lies here.
unfoldable pub region_at : Region → List Text → ℕ → Region
region_at region ls zero = region
region_at region [] (suc j) = region
region_at region (l ∷ ls) (suc j) = region_at (region_after region l) ls j

region_next : (region : Region) (ls : List Text) (j : ℕ) → j < length ls → region_at region ls (suc j) ≡ region_after (region_at region ls j) (get_or ls j [])
unfolding region_at
region_next region [] j h = absurd (omega arith)
region_next region (l ∷ ls) zero h = refl
region_next region (l ∷ ls) (suc j) h = region_next (region_after region l) ls j (omega arith)

-- What holds of all places in front of one, and of that one, holds of all in front of the next.
and_last : (P : ℕ → Type 0) (j : ℕ) → ((k : ℕ) → k < j → P k) → P j → (k : ℕ) → k < suc j → P k
and_last P j f p k h = by (dec_lt k j)
  where
    by : Dec (k < j) → P k
    by (yes g) = f k g
    by (no g) = let is : j ≡ k = omega arith in subst P is p

-- What a region says of the lines in front of a place.
module _ (ls : List Text) where
  abbrev Lies : ℕ → Region → Type 0
  Lies j Head = (k : ℕ) → k < j → get_or ls k [] ≡ remarks_line → ⊥
  Lies j Remarks = (i : ℕ) × RemarksLineAt ls i × (i < j) × ((k : ℕ) → i < k → k < j → T (begins count_start (get_or ls k [])) → ⊥)
  Lies j Records = (c : ℕ) × CountLineAt ls c × (c < j)

  -- What each line adds to it, and so what is said of every place.
  next : (j : ℕ) (region : Region) → j < length ls → Lies j region → Lies (suc j) (region_after region (get_or ls j []))
  unfolding region_after
  next j Head h f = by (same (get_or ls j []) remarks_line) refl
    where
      by : (b : Bool) → same (get_or ls j []) remarks_line ≡ b → Lies (suc j) (cond b Remarks Head)
      by true e = (j, (h, same_eq (get_or ls j []) remarks_line e, f), omega arith, λ k g l. absurd (omega arith))
      by false e =
          and_last (λ k. get_or ls k [] ≡ remarks_line → ⊥) j f (λ is. clash (same_of_eq (get_or ls j []) remarks_line is) e)
  next j Remarks h (i, r, g, f) = by (begins count_start (get_or ls j [])) refl
    where
      by : (b : Bool) → begins count_start (get_or ls j []) ≡ b → Lies (suc j) (cond b Records Remarks)
      by true e = (j, (i, r, g, h, holds e, f), omega arith)
      by false e = (
        i,
        r,
        omega arith,
        λ k low high. and_last (λ k. i < k → T (begins count_start (get_or ls k [])) → ⊥) j (λ k high low. f k low high) (λ low t. clash (so (begins count_start (get_or ls j [])) t) e) k high low,
      )
  next j Records h (c, r, g) = (c, r, omega arith)

  lies : (j : ℕ) → j ≤ length ls → Lies j (region_at Head ls j)
  lies zero h = unfold region_at in λ k g. absurd (omega arith)
  lies (suc j) h =
      rw (region_next Head ls j (omega arith)) (next j (region_at Head ls j) (omega arith) (lies j (omega arith)))

  -- The first line `[Remarks]` is one.
  one_remarks : (i k : ℕ) → RemarksLineAt ls i → RemarksLineAt ls k → i ≡ k
  one_remarks i k (h, is, f) (g, was, e) = by (dec_lt i k) (dec_lt k i)
    where
      by : Dec (i < k) → Dec (k < i) → i ≡ k
      by (yes l) m = absurd (e i l is)
      by (no l) (yes m) = absurd (f k m was)
      by (no l) (no m) = omega arith

  -- No place lies in two regions.
  module _ (j : ℕ) {A : Type 0} where
    not_remarks : Lies j Head → Lies j Remarks → A
    not_remarks f (i, (h, is, first), low, none) = absurd (f i low is)

    not_records : Lies j Head → Lies j Records → A
    not_records f (c, (i, (h, is, first), low, high, t, none), g) = absurd (f i (omega arith) is)

    not_both : Lies j Remarks → Lies j Records → A
    not_both (k, r, l, only) (c, (i, m, low, high, t, none), g) =
        let same : k ≡ i = one_remarks k i r m in
        absurd (only c (omega arith) g t)

  one_region : (j : ℕ) (a b : Region) → Lies j a → Lies j b → a ≡ b
  one_region j Head Head f g = refl
  one_region j Head Remarks f g = not_remarks j f g
  one_region j Head Records f g = not_records j f g
  one_region j Remarks Head f g = not_remarks j g f
  one_region j Remarks Remarks f g = refl
  one_region j Remarks Records f g = not_both j f g
  one_region j Records Head f g = not_records j g f
  one_region j Records Remarks f g = not_both j g f
  one_region j Records Records f g = refl

  module _ (j : ℕ) (h : j < length ls) where
    here : (region : Region) → Lies j region → region_at Head ls j ≡ region
    here region k = one_region j (region_at Head ls j) region (lies j (omega arith)) k

    there : (region : Region) → region_at Head ls j ≡ region → Lies j region
    there region e = subst (λ (r : Region). Lies j r) e (lies j (omega arith))

    -- A record line lies among the records, and the count line is the one that ends the remarks.
    pub record_region : RecordLineAt ls j → region_at Head ls j ≡ Records
    record_region (c, m, g, l) = here Records (c, m, g)

    pub region_record : region_at Head ls j ≡ Records → RecordLineAt ls j
    region_record e = let (c, m, g) = there Records e in (c, m, g, h)

    pub count_region : CountLineAt ls j → region_at Head ls j ≡ Remarks
    count_region (i, m, g, l, t, f) = here Remarks (i, m, g, f)

    pub region_count : region_at Head ls j ≡ Remarks → begins count_start (get_or ls j []) ≡ true → CountLineAt ls j
    region_count e b = let (i, m, g, f) = there Remarks e in (i, m, g, h, holds b, f)
