-- What the mender does to a line: the kinds of the things that are done, which ascend, and of the line at a place what its text becomes.
-- Assumes nothing.
use Prim.Native.Nat.{ℕ, zero, suc, ◌+◌, ◌-◌, ◌≤◌, ◌<◌}
use mathlib.Core.Path.{◌≡◌, refl, sym, ap, ap₂, ◌∙◌}
use mathlib.Core.Logic.{◌⊎◌, inl, inr, ◌↔◌}
use mathlib.Core.Bool.{Bool, true, false, cond}
use mathlib.Core.List.Memᴰ
use mathlib.Core.List.{List, [], ◌∷◌, ◌++◌, map, append-nil, Memᴰ}
use lib.ListN.{length, get_or, length-map, get_or-map}
use native.Mathlib.Omega.{arith}
use Rattle.rules.specs.declared.Region.{Region}
use Rattle.rules.specs.declared.Region.TheVariants.{Head, Remarks, Records}
use Rattle.rules.specs.Text.{Text, same}
use Rattle.rules.specs.Mending.{ChewedLine, chewed_lines, ends_in_cr, MendedLine, end_done, end_mended, changed_to, region_after, line_mended, lines_mended, mended_lines, texts_of}
use Rattle.rules.specs.MendingDemands.{line_texts}
use Rattle.rules.proofs.Tests.{never, clash}
use Rattle.rules.proofs.TextLaws.{same_eq, same_of_eq, same_refl}
use Rattle.rules.proofs.MendingLaws.{set_to, mended_text_lem, mended_more, texts_of_lines}
use Rattle.rules.proofs.MendingPlaces.{region_at}

-- # What is done to a line

-- A kind is one of these.
abbrev pub Has : ℕ → List ℕ → Type 0
Has k ks = Memᴰ k ks

-- Numbers that ascend, from the first of two on and below the second.
abbrev pub Within : ℕ → ℕ → List ℕ → Type 0
Within a b [] = a ≤ b
Within a b (k ∷ ks) = (a ≤ k) × Within (suc k) b ks

pub within_lower : (a b c : ℕ) (ks : List ℕ) → a ≤ b → Within b c ks → Within a c ks
within_lower a b c [] h w = omega arith
within_lower a b c (k ∷ ks) h w = (omega (arith, w.0), w.1)

pub within_append : (a b c : ℕ) (ks ms : List ℕ) → Within a b ks → Within b c ms → Within a c (ks ++ ms)
within_append a b c [] ms w v = within_lower a b c ms w v
within_append a b c (k ∷ ks) ms w v = (w.0, within_append (suc k) b c ks ms w.1 v)

within_most : (a b : ℕ) (ks : List ℕ) → Within a b ks → a ≤ b
within_most a b [] w = w
within_most a b (k ∷ ks) w = omega (arith, w.0, within_most (suc k) b ks w.1)

pub within_member : (a b k : ℕ) (ks : List ℕ) → Within a b ks → Has k ks → (a ≤ k) × (k < b)
within_member a b k [] w m = absurd (Memᴰ.not-nil m)
within_member a b k (x ∷ ks) w m = by (within_member (suc x) b k ks w.1) (Memᴰ.cases_cons m)
  where
    by : (Has k ks → (suc x ≤ k) × (k < b)) → (k ≡ x) ⊎ Has k ks → (a ≤ k) × (k < b)
    by more (inl e) = (omega (arith, w.0), omega (arith, within_most (suc x) b ks w.1))
    by more (inr n) = let p = more n in (omega (arith, w.0), p.1)

-- What is done to the end of a line, by whether LF stands there and CR in front of it.
abbrev of_end : Bool → Bool → List ℕ
of_end lf cr = cond lf (cond cr [] (1 ∷ [])) (2 ∷ [])

pub end_within : (l : ChewedLine) → Within 1 3 (end_done l)
unfolding end_done
end_within l = by l.ends (ends_in_cr l.text)
  where
    by : (a b : Bool) → Within 1 3 (of_end a b)
    by true true = omega arith
    by true false = (omega arith, omega arith)
    by false b = (omega arith, omega arith)

-- What may be done to it besides, by where it lies, and what is.
abbrev pub kinds_of : Region → List ℕ
kinds_of Head = []
kinds_of Remarks = 4 ∷ []
kinds_of Records = 3 ∷ []

unfoldable pub besides : Region → ℕ → Text → List ℕ
besides region n t = cond (same (set_to region n t) t) [] (kinds_of region)

pub besides_within : (region : Region) (n : ℕ) (t : Text) → Within 3 5 (besides region n t)
unfolding besides
besides_within region n t = by (same (set_to region n t) t)
  where
    kinds_within : (region : Region) → Within 3 5 (kinds_of region)
    kinds_within Head = omega arith
    kinds_within Remarks = (omega arith, omega arith)
    kinds_within Records = (omega arith, omega arith)

    by : (b : Bool) → Within 3 5 (cond b [] (kinds_of region))
    by true = omega arith
    by false = kinds_within region

end_done_lem : (l : ChewedLine) → (end_mended l).done ≡ end_done l
unfolding end_mended
end_done_lem l = refl

done_is : (region : Region) (n : ℕ) (l : MendedLine) → (line_mended region n l).done ≡ l.done ++ besides region n l.text
unfolding line_mended changed_to besides set_to
done_is Head n l = rw (same_refl l.text) (sym (append-nil l.done))
done_is Remarks n l = refl
done_is Records n l = refl

-- Which kind it is.
pub end_one : (l : ChewedLine) → Has 1 (end_done l) ↔ ((l.ends ≡ true) × (ends_in_cr l.text ≡ false))
unfolding end_done
end_one l = by l.ends (ends_in_cr l.text)
  where
    by : (a b : Bool) → Has 1 (of_end a b) ↔ ((a ≡ true) × (b ≡ false))
    by true true = (λ m. absurd (Memᴰ.not-nil m), λ p. never (sym p.1))
    by true false = (λ m. (refl, refl), λ p. Memᴰ.head refl)
    by false b = (λ m. absurd (omega (arith, Memᴰ.eq_of_singleton m)), λ p. never p.0)

pub end_two : (l : ChewedLine) → Has 2 (end_done l) ↔ (l.ends ≡ false)
unfolding end_done
end_two l = by l.ends (ends_in_cr l.text)
  where
    by : (a b : Bool) → Has 2 (of_end a b) ↔ (a ≡ false)
    by true true = (λ m. absurd (Memᴰ.not-nil m), λ p. never (sym p))
    by true false = (λ m. absurd (omega (arith, Memᴰ.eq_of_singleton m)), λ p. never (sym p))
    by false b = (λ m. refl, λ p. Memᴰ.head refl)

pub besides_kinds : (k : ℕ) (region : Region) (n : ℕ) (t : Text) → Has k (besides region n t) ↔ (Has k (kinds_of region) × (set_to region n t ≡ t → ⊥))
unfolding besides
besides_kinds k region n t = by (same (set_to region n t) t) refl
  where
    by : (b : Bool) → same (set_to region n t) t ≡ b → Has k (cond b [] (kinds_of region)) ↔ (Has k (kinds_of region) × (set_to region n t ≡ t → ⊥))
    by true e = (λ m. absurd (Memᴰ.not-nil m), λ p. absurd (p.1 (same_eq (set_to region n t) t e)))
    by false e = (λ m. (m, λ is. clash (same_of_eq (set_to region n t) t is) e), λ p. p.0)

pub kind_three : (region : Region) → Has 3 (kinds_of region) ↔ (region ≡ Records)
kind_three region = (by region, λ e. rw e (Memᴰ.head refl))
  where
    by : (region : Region) → Has 3 (kinds_of region) → region ≡ Records
    by Head m = absurd (Memᴰ.not-nil m)
    by Remarks m = absurd (omega (arith, Memᴰ.eq_of_singleton m))
    by Records m = refl

pub kind_four : (region : Region) → Has 4 (kinds_of region) ↔ (region ≡ Remarks)
kind_four region = (by region, λ e. rw e (Memᴰ.head refl))
  where
    by : (region : Region) → Has 4 (kinds_of region) → region ≡ Remarks
    by Head m = absurd (Memᴰ.not-nil m)
    by Remarks m = refl
    by Records m = absurd (omega (arith, Memᴰ.eq_of_singleton m))

-- # The line at a place

-- A line that stands nowhere.
abbrev pub no_line : ChewedLine
no_line = record { text = []; ends = true }

mended_at_lem : (region : Region) (ls : List MendedLine) (j n : ℕ) (d : MendedLine) → suc (j + n) ≡ length ls → get_or (lines_mended region ls) j d ≡ line_mended (region_at region (texts_of ls) j) n (get_or ls j d)
unfolding region_at texts_of
mended_at_lem region [] j n d e = absurd (omega arith)
mended_at_lem region (l ∷ ls) zero n d e =
    let follow : length ls ≡ n = omega arith in
    ap (λ (x : List MendedLine). get_or x 0 d) (mended_more region l ls) ∙ ap (λ (m : ℕ). line_mended region m l) follow
mended_at_lem region (l ∷ ls) (suc j) n d e =
    ap (λ (x : List MendedLine). get_or x (suc j) d) (mended_more region l ls)
    ∙ mended_at_lem (region_after region l.text) ls j n d (omega arith)

length_mended : (region : Region) (ls : List MendedLine) → length (lines_mended region ls) ≡ length ls
unfolding lines_mended
length_mended region [] = refl
length_mended region (l ∷ ls) = ap suc (length_mended (region_after region l.text) ls)

-- Of a text: as many lines come out as went in, and the line at a place, with what stands there before and after.
module _ (s : Text) where
  pub many_mended : length (mended_lines s) ≡ length (chewed_lines s)
  unfolding mended_lines
  many_mended = length_mended Head (map end_mended (chewed_lines s)) ∙ length-map (chewed_lines s) end_mended

  pub many_texts : length (line_texts s) ≡ length (chewed_lines s)
  unfolding line_texts
  many_texts = simp length-map

  module _ (j : ℕ) where
    abbrev pub chewed : ChewedLine
    chewed = get_or (chewed_lines s) j no_line

    abbrev pub before : Text
    before = get_or (line_texts s) j []

    abbrev pub after : Text
    after = get_or (texts_of (mended_lines s)) j []

    abbrev pub follow : ℕ
    follow = length (line_texts s) - suc j

    abbrev pub region : Region
    region = region_at Head (line_texts s) j

    abbrev pub mended_at : MendedLine
    mended_at = get_or (mended_lines s) j (end_mended no_line)

    before_is : before ≡ (end_mended chewed).text
    unfolding line_texts end_mended
    before_is = get_or-map (λ (l : ChewedLine). (end_mended l).text) (chewed_lines s) j no_line

    after_is : after ≡ mended_at.text
    unfolding texts_of end_mended
    after_is = get_or-map (λ (l : MendedLine). l.text) (mended_lines s) j (end_mended no_line)

    module _ (h : j < length (chewed_lines s)) where
      line_is : mended_at ≡ line_mended region follow (end_mended chewed)
      unfolding mended_lines
      line_is =
          let ls = map end_mended (chewed_lines s) in
          let many : suc (j + follow) ≡ length ls = omega (arith, many_texts, length-map (chewed_lines s) end_mended) in
          mended_at_lem Head ls j follow (end_mended no_line) many
          ∙ ap₂ (λ (r : Region) (l : MendedLine). line_mended r follow l) (ap (λ (ts : List Text). region_at Head ts j) (texts_of_lines s)) (get_or-map end_mended (chewed_lines s) j no_line)

      -- What its text becomes, and what was done to it.
      pub becomes : after ≡ set_to region follow before
      becomes =
          after_is
          ∙ ap (λ (l : MendedLine). l.text) line_is
          ∙ mended_text_lem region follow (end_mended chewed)
          ∙ ap (set_to region follow) (sym before_is)

      pub done : mended_at.done ≡ end_done chewed ++ besides region follow before
      done =
          ap (λ (l : MendedLine). l.done) line_is
          ∙ done_is region follow (end_mended chewed)
          ∙ ap₂ (λ (ks : List ℕ) (t : Text). ks ++ besides region follow t) (end_done_lem chewed) (sym before_is)

      pub done_within : Within 1 5 mended_at.done
      done_within =
          rw done (within_append 1 3 5 (end_done chewed) (besides region follow before) (end_within chewed) (besides_within region follow before))
