-- The loops over the claims: the claim of a turn lies in order, and what is copied behind the last of them ends with the text.
-- Assumes nothing.
use Prim.Native.Nat.{ℕ, zero, suc, ◌+◌, ◌≤◌, ◌<◌}
use native.Mathlib.Numerals.{add-one}
use native.Mathlib.Omega.{arith}
use mathlib.Core.List.{List, ◌++◌}
use mathlib.Core.Path.{◌≡◌, refl, sym, ap, ◌∙◌}
use lib.ListN.{length, drop, get_or, length-append, length-drop}
use Rattle.reader.specs.Contact.{between}
use Rattle.rules.proofs.TextLaws.{span_short}
use Rattle.rules.specs.Text.{Text, digit, span, digits}
use Rattle.writer.specs.ClaimsText.{number_end, line_behind, claim_line, claim_end, claim_text, claims_text}
use Rattle.writer.specs.Given.{ClaimLies, ClaimsLie}
use Rattle.writer.specs.Written.{texts, start_of}

-- A number ends within the text, behind its beginning.
pub number_within : (s : Text) (at : ℕ) → at ≤ length s → number_end s at ≤ length s
unfolding number_end
number_within s at h = omega (arith, span_short digit (drop at s), length-drop at s)

pub number_behind : (s : Text) (at : ℕ) → at ≤ number_end s at
unfolding number_end
number_behind s at = omega arith

-- As the code has it.
pub number_is : (s : Text) (at : ℕ) {e : ℕ} → e ≡ at + span digit (drop at s) → e ≡ number_end s at
unfolding number_end
number_is s at h = h

-- The line of a claim, from the one before it.
pub line_first : (s : Text) (line : ℕ) → line ≡ claim_line s line 0
unfolding claim_line
line_first s line = refl

pub line_next_lem : (s : Text) (line i : ℕ) → line_behind s (claim_end s line i) ≡ claim_line s line (i + 1)
unfolding claim_line
line_next_lem s line i = rw (add-one i)

-- The claims lie in order.
module _ {s : Text} {first : ℕ} {starts ends : List ℕ} {n : ℕ} (lie : ClaimsLie s first starts ends n) where
  pub claim_lies : (i : ℕ) {from : ℕ} → i < n → from ≡ start_of 0 0 ends i → ClaimLies from (get_or starts i 0) (get_or ends i 0) first
  claim_lies i h e = rw e (lie.lies i h)

  pub ends_inside : (i : ℕ) {from : ℕ} → i ≤ n → from ≡ start_of 0 0 ends i → from ≤ first
  unfolding start_of
  ends_inside zero h e = omega arith
  ends_inside (suc i) h e = omega (arith, (lie.lies i h).inside)

-- The text of the claim of a turn, and of all that stands in front of the records.
module _ (s : Text) (first : ℕ) (starts ends ns : List ℕ) where
  abbrev pub claim : ℕ → Text
  claim = claim_text s 0 starts ends ns

  pub claim_here : (i : ℕ) {from : ℕ} → from ≡ start_of 0 0 ends i → between s from (get_or starts i 0) ++ digits (get_or ns i 0) ≡ claim i
  claim_here i e = rw e

  -- What was written, and what is left.
  module _ (i from : ℕ) (h : i ≡ length ns) (e : from ≡ start_of 0 0 ends i) where
    pub claims_are : texts claim i ++ between s from first ≡ claims_text s first 0 starts ends ns
    unfolding claims_text
    claims_are = rw (e, h)

    pub claims_length : length (claims_text s first 0 starts ends ns) ≡ length (texts claim i) + length (between s from first)
    claims_length = ap length (sym claims_are) ∙ length-append (texts claim i) (between s from first)

  -- The claims are a part of it.
  pub claims_within : length (texts claim (length ns)) ≤ length (claims_text s first 0 starts ends ns)
  claims_within = omega (arith, claims_length (length ns) (start_of 0 0 ends (length ns)) refl refl)
