-- Lines that hold a number behind their keyword: where each number lies, and the text with other numbers in their places.
-- Assumes nothing.
use Prim.Native.Nat.{ℕ, zero, suc, ◌+◌, ◌-◌, ◌≤◌, ◌<◌}
use native.Mathlib.Nat.{add-zero}
use native.Mathlib.Omega.{arith}
use mathlib.Core.Bool.{Bool, true}
use mathlib.Core.List.{List, [], ◌∷◌, ◌++◌, append_assoc}
use mathlib.Core.Path.{◌≡◌, refl, sym, ap, ap₂, ◌∙◌}
use lib.Dec.{leb}
use lib.ListN.{length, take, drop, get_or, length-append, length-drop, take-append-drop}
use lib.Seq.{drop-drop, drop_at, take_at, drop-append-le, take-append_seam, length-take-le}
use borrow.Author.Tests.{leb-true}
use Rattle.reader.specs.Contact.{between}
use Rattle.rules.proofs.LogLaws.{every_first, every_others, length_ended_more}
use Rattle.rules.proofs.Tests.{and_r}
use Rattle.rules.proofs.TextLaws.{all_drop, span_stops, span_run, span_short}
use Rattle.rules.specs.Arguments.{every}
use Rattle.rules.specs.Log.{crlf, ended, line_rule}
use Rattle.rules.specs.Rules.{Rules}
use Rattle.rules.specs.Text.{Text, digit, allowed, all, span, digits}
use Rattle.writer.specs.ClaimsText.{number_start, number_end, line_behind, claim_line, claim_start, claim_end, claim_starts, claim_ends, claim_text, claims_text}
use Rattle.writer.specs.Given.{ClaimLies, ClaimsLie}
use Rattle.writer.specs.Written.{texts, start_of}
use Rattle.writer.proofs.ClaimLoops.{number_behind}
use Rattle.writer.proofs.TextsLaws.{texts_front, texts_same, row_length, row_at, start_next}

-- # The first claim, and the others behind it

module _ (s : Text) (line : ℕ) where
  abbrev next : ℕ
  next = line_behind s (number_end s (number_start line))

  line_shift : (i : ℕ) → claim_line s line (suc i) ≡ claim_line s next i
  unfolding claim_line
  line_shift zero = refl
  line_shift (suc i) = ap (λ (n : ℕ). line_behind s (number_end s (number_start n))) (line_shift i)

  starts_front : (n : ℕ) → claim_starts s line (suc n) ≡ number_start line ∷ claim_starts s next n
  unfolding claim_line
  starts_front n =
      texts_front (λ i. claim_start s line i ∷ []) n
      ∙ ap (λ (t : Text). number_start line ∷ t) (texts_same (λ i. claim_start s line (suc i) ∷ []) (λ i. claim_start s next i ∷ []) (λ i. ap (λ (k : ℕ). number_start k ∷ []) (line_shift i)) n)

  ends_front : (n : ℕ) → claim_ends s line (suc n) ≡ number_end s (number_start line) ∷ claim_ends s next n
  unfolding claim_line
  ends_front n =
      texts_front (λ i. claim_end s line i ∷ []) n
      ∙ ap (λ (t : Text). number_end s (number_start line) ∷ t) (texts_same (λ i. claim_end s line (suc i) ∷ []) (λ i. claim_end s next i ∷ []) (λ i. ap (λ (k : ℕ). number_end s (number_start k) ∷ []) (line_shift i)) n)

  -- The end of the claim before one, or the place where copying begins.
  from_at : ℕ → ℕ → ℕ
  from_at from zero = from
  from_at from (suc i) = claim_end s line i

-- The text in front of the first record, in the same way.
claims_front : (s : Text) (first from a e n : ℕ) (os es ns : List ℕ)
    → claims_text s first from (a ∷ os) (e ∷ es) (n ∷ ns) ≡ between s from a ++ digits n ++ claims_text s first e os es ns
unfolding claims_text start_of
claims_front s first from a e n os es ns =
    let all = claim_text s from (a ∷ os) (e ∷ es) (n ∷ ns) in
    let others = claim_text s e os es ns in
    let start : (i : ℕ) → start_of 0 from (e ∷ es) (suc i) ≡ start_of 0 e es i = λ i. start_next 0 from e es i ∙ ap (λ (k : ℕ). start_of 0 k es i) (add-zero e) in
    let same : texts (λ i. all (suc i)) (length ns) ≡ texts others (length ns) =
    texts_same (λ i. all (suc i)) others (λ i. ap (λ (k : ℕ). between s k (get_or os i 0) ++ digits (get_or ns i 0)) (start i)) (length ns) in
    let last : between s (start_of 0 from (e ∷ es) (suc (length ns))) first ≡ between s (start_of 0 e es (length ns)) first = ap (λ (k : ℕ). between s k first) (start (length ns)) in
    ap₂ (λ (t u : Text). t ++ u) (texts_front all (length ns) ∙ ap (λ (t : Text). between s from a ++ digits n ++ t) same) last
    ∙ append_assoc (between s from a ++ digits n) (texts others (length ns)) (between s (start_of 0 e es (length ns)) first)

-- # Lines

-- What stands behind the digits that an argument begins with, and the argument with this number in their place.
abbrev pub behind_number : Text → Text
behind_number t = drop (span digit t) t

abbrev pub renumbered : ℕ → Text → Text
renumbered n t = digits n ++ behind_number t

-- The argument of a line stands behind the six characters of its keyword and `=`.
abbrev pub keyworded : Text → Bool
keyworded l = leb 6 (length l)

abbrev pub renumbered_line : ℕ → Text → Text
renumbered_line n l = take 6 l ++ renumbered n (drop 6 l)

unfoldable pub renumbered_lines : List ℕ → List Text → List Text
renumbered_lines [] ls = ls
renumbered_lines (n ∷ ns) [] = []
renumbered_lines (n ∷ ns) (l ∷ ls) = renumbered_line n l ∷ renumbered_lines ns ls

-- From a place on a log holds a text, these lines, and more up to its first record.
pub record LinesStand (R : Rules) (s : Text) (first : ℕ) (more back : Text) (from : ℕ) (u : Text) (ls : List Text) : Type 0 where
  pub rules : every (line_rule R) ls ≡ true
  pub keywords : every keyworded ls ≡ true
  pub there : drop from s ≡ u ++ (ended ls ++ (more ++ back))
  pub places : from + length u + length (ended ls) + length more ≡ first

module _ (R : Rules) (s : Text) (first : ℕ) (more back : Text) where
  abbrev Standing : ℕ → Text → List Text → Type 0
  Standing = LinesStand R s first more back

  -- The first of the lines: its number, and what stands behind that.
  module _ (from : ℕ) (u l : Text) (ls : List Text) (g : Standing from u (l ∷ ls)) where
    abbrev t : Text
    t = drop 6 l

    abbrev start : ℕ
    start = number_start (from + length u)

    abbrev end : ℕ
    end = number_end s start

    abbrev others : Text
    others = ended ls ++ (more ++ back)

    -- What is left of the line, with its end.
    abbrev left : Text
    left = behind_number t ++ crlf

    six : 6 ≤ length l
    six = leb-true 6 (length l) (every_first keyworded l ls g.keywords)

    clean : all allowed l ≡ true
    unfolding line_rule
    clean = and_r (leb (length l) R.longest_line) (all allowed l) (every_first (line_rule R) l ls g.rules)

    head_length : length (u ++ take 6 l) ≡ length u + 6
    head_length = length-append u (take 6 l) ∙ ap (λ (n : ℕ). length u + n) (length-take-le 6 l six)

    cut : drop from s ≡ (u ++ take 6 l) ++ (t ++ (crlf ++ others))
    unfolding ended
    cut =
        g.there
        ∙ ap (λ (k : Text). u ++ (k ++ crlf ++ ended ls ++ (more ++ back))) (sym (take-append-drop 6 l))
        ∙ simp append_assoc

    before_number : between s from start ≡ u ++ take 6 l
    before_number =
        let n : start - from ≡ length u + 6 = omega arith in
        ap (λ (k : ℕ). take k (drop from s)) n
        ∙ ap (take (length u + 6)) cut
        ∙ take_at (u ++ take 6 l) (t ++ (crlf ++ others)) (length u + 6) head_length

    at_number : drop start s ≡ t ++ (crlf ++ others)
    at_number =
        let n : start ≡ from + (length u + 6) = omega arith in
        ap (λ (k : ℕ). drop k s) n
        ∙ sym (drop-drop (length u + 6) from s)
        ∙ ap (drop (length u + 6)) cut
        ∙ drop_at (u ++ take 6 l) (t ++ (crlf ++ others)) (length u + 6) head_length

    number_ends : end ≡ start + span digit t
    unfolding number_end crlf
    number_ends =
        ap (λ (k : Text). start + span digit k) at_number
        ∙ ap (λ (k : ℕ). start + k) (span_stops digit t 13 (10 ∷ others) refl)

    after_number : drop end s ≡ behind_number t ++ (crlf ++ others)
    after_number =
        ap (λ (k : ℕ). drop k s) number_ends
        ∙ sym (drop-drop (span digit t) start s)
        ∙ ap (drop (span digit t)) at_number
        ∙ drop-append-le (span digit t) t (crlf ++ others) (span_short digit t)

    line_ends : line_behind s end ≡ end + length left
    unfolding line_behind crlf
    line_ends =
        let c : all allowed (behind_number t) ≡ true = all_drop allowed (span digit t) t (all_drop allowed 6 l clean) in
        let n : span allowed (drop end s) ≡ length (behind_number t) = ap (span allowed) after_number ∙ span_run allowed (behind_number t) 13 (10 ∷ others) c refl in
        omega (arith, length-append (behind_number t) crlf)

    left_ends : end + length left ≡ from + length u + length l + 2
    unfolding crlf
    left_ends =
        omega (
          arith,
          number_ends,
          six,
          length-append (behind_number t) crlf,
          length-drop (span digit t) t,
          length-drop 6 l,
          span_short digit t,
        )

    end_within : end ≤ first
    end_within = omega (arith, g.places, left_ends, length_ended_more l ls)

    stands_next : Standing end left ls
    stands_next =
        record {
          rules = every_others (line_rule R) l ls g.rules;
          keywords = every_others keyworded l ls g.keywords;
          there = after_number ∙ sym (append_assoc (behind_number t) crlf others);
          places = omega (arith, g.places, left_ends, length_ended_more l ls);
        }

  -- The numbers lie in order in front of the first record.
  lies_at : (ls : List Text) (from : ℕ) (u : Text) → Standing from u ls → (i : ℕ) → i < length ls
      → ClaimLies (from_at s (from + length u) from i) (claim_start s (from + length u) i) (claim_end s (from + length u) i) first
  unfolding from_at
  lies_at [] from u g i h = absurd (omega arith)
  lies_at (l ∷ ls) from u g zero h =
      unfold claim_line in
      record {
        order = omega arith;
        rise = number_behind s (start from u l ls g);
        inside = end_within from u l ls g;
      }
  lies_at (l ∷ ls) from u g (suc i) h =
      let line = from + length u in
      let e = end from u l ls g in
      let there = lies_at ls e (left from u l ls g) (stands_next from u l ls g) i (omega arith) in
      let same : claim_line s line (suc i) ≡ claim_line s (e + length (left from u l ls g)) i = line_shift s line i ∙ ap (λ (k : ℕ). claim_line s k i) (line_ends from u l ls g) in
      let begins : claim_end s line i ≡ from_at s (e + length (left from u l ls g)) e i = from_next (line_ends from u l ls g) i in
      rw (begins, same) there
    where
      from_next : line_behind s (end from u l ls g) ≡ end from u l ls g + length (left from u l ls g) → (k : ℕ) → claim_end s (from + length u) k ≡ from_at s (end from u l ls g + length (left from u l ls g)) (end from u l ls g) k
      from_next p zero = unfold claim_line in refl
      from_next p (suc k) = ap (λ (n : ℕ). number_end s (number_start n)) (line_shift s (from + length u) k ∙ ap (λ (n : ℕ). claim_line s n k) p)

  pub lines_lie : (ls : List Text) (u : Text) → Standing 0 u ls → first ≤ length s
      → ClaimsLie s first (claim_starts s (0 + length u) (length ls)) (claim_ends s (0 + length u) (length ls)) (length ls)
  unfolding start_of from_at
  lines_lie ls u g h =
      record {
        many_starts = omega (arith, row_length (claim_start s (0 + length u)) (length ls));
        many_ends = omega (arith, row_length (claim_end s (0 + length u)) (length ls));
        lies = λ i k. rw (begins i k, row_at (claim_start s (0 + length u)) (length ls) i k, row_at (claim_end s (0 + length u)) (length ls) i k) (lies_at ls 0 u g i k);
        within = h;
      }
    where
      begins : (i : ℕ) → i < length ls → start_of 0 0 (claim_ends s (0 + length u) (length ls)) i ≡ from_at s (0 + length u) 0 i
      begins zero k = refl
      begins (suc i) k = add-zero (get_or (claim_ends s (0 + length u) (length ls)) i 0) ∙ row_at (claim_end s (0 + length u)) (length ls) i (omega arith)

  -- The text with as many numbers in their places holds these lines with these numbers.
  pub lines_renumbered : (ns : List ℕ) (ls : List Text) (from : ℕ) (u : Text) → length ls ≡ length ns → Standing from u ls
      → claims_text s first from (claim_starts s (from + length u) (length ns)) (claim_ends s (from + length u) (length ns)) ns ≡ u ++ (ended (renumbered_lines ns ls) ++ more)
  unfolding renumbered_lines ended
  lines_renumbered [] [] from u c g =
      unfold claims_text texts start_of in
      let n : first - from ≡ length (u ++ more) = omega (arith, g.places, length-append u more) in
      ap (λ (k : ℕ). take k (drop from s)) n
      ∙ ap (take (length (u ++ more))) (g.there ∙ sym (append_assoc u more back))
      ∙ take-append_seam (u ++ more) back
  lines_renumbered [] (l ∷ ls) from u c g = absurd (omega arith)
  lines_renumbered (n ∷ ns) [] from u c g = absurd (omega arith)
  lines_renumbered (n ∷ ns) (l ∷ ls) from u c g =
      let line = from + length u in
      let e = end from u l ls g in
      let k = length ns in
      let shorter = lines_renumbered ns ls e (left from u l ls g) (omega arith) (stands_next from u l ls g) in
      (λ j. claims_text s first from (starts_front s line k j) (ends_front s line k j) (n ∷ ns))
      ∙ claims_front s first from (number_start line) e n (claim_starts s (next s line) k) (claim_ends s (next s line) k) ns
      ∙ rw (before_number from u l ls g, line_ends from u l ls g, shorter) (simp append_assoc)
