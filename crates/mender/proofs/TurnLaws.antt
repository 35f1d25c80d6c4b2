-- Laws of a turn of the walk over the lines: what is left from a place on, and what a line adds to what is measured, read and written.
-- Assumes nothing.
use Prim.Native.Nat.{ℕ, ◌+◌, ◌-◌, ◌≤◌, ◌<◌}
use native.Mathlib.Nat.{add-zero, zero-add}
use native.Mathlib.Omega.{arith}
use mathlib.Core.Path.{◌≡◌, refl, sym, ap, ap₂, subst, ◌∙◌}
use mathlib.Core.List.{List, [], ◌∷◌, ◌++◌, map, map-append, append_assoc}
use lib.ListN.{length, drop, length-append, length-map}
use Rattle.std.specs.Prelude.{Result, Ok, Err}
use Rattle.rules.specs.declared.Fault.{Fault}
use Rattle.rules.specs.declared.Due.{Due}
use Rattle.rules.specs.declared.Due.TheVariants.{Identifier}
use Rattle.rules.specs.declared.Region.{Region}
use Rattle.rules.specs.Answers.{over}
use Rattle.rules.specs.Text.{Text}
use Rattle.rules.specs.Rules.{Rules}
use Rattle.rules.specs.Log.{crlf, ended}
use Rattle.rules.specs.Reading.{Reading, accepted, refused, refusal, put, on_next}
use Rattle.rules.specs.Mending.{MendedLine, lines_mended, mended_lines, texts_of, mended_text, Change, changes_in, changes_from, changes}
use Rattle.writer.specs.Written.{Puts, written}
use Rattle.writer.proofs.WrittenLaws.{written_nothing, written_then, puts_length}
use Rattle.mender.specs.declared.Laid.{Laid}
use Rattle.mender.specs.Lines.{lines_at, mended_at, kinds_of, text_laid, line_laid, Lays}
use Rattle.std.specs.Prelude.{Err}
use Rattle.mender.specs.Checking.{line_next, walk_lines, checked_by, rest_told, checked_from, checked_of}
use Rattle.mender.proofs.CutLaws.{no_lines_lem, some_lines}
use Rattle.mender.proofs.LayLaws.{mended_turn}

-- # The lines that are left

-- A place where a line begins, or the end, with how many lines are left from there on.
pub record Walks (s : Text) (at follow : ℕ) : Type 0 where
  pub near : at ≤ length s + 1
  pub left : follow ≡ length (lines_at s at)

pub walks_from : (s : Text) {total : ℕ} → total ≡ length (lines_at s 0) → Walks s 0 total
walks_from s e = record { near = omega arith; left = e }

module _ {s : Text} {at follow : ℕ} (w : Walks s at follow) where
  pub walks_some : at < length s → 1 ≤ follow
  walks_some h = omega (arith, w.left, some_lines s at h)

  pub walks_end : (region : Region) → length s ≤ at → mended_at region s at ≡ []
  unfolding lines_mended
  walks_end region h = rw (no_lines_lem s at h)

  module _ {region : Region} {l : Laid} (k : Lays region s at (follow - 1) l) where
    fewer : follow - 1 ≡ length (lines_at s l.next)
    fewer = let more = ap length k.lines in omega (arith, w.left, more)

    pub walks_on : Walks s l.next (follow - 1)
    walks_on = record { near = k.spans.near; left = fewer }

    pub walks_turn : mended_at region s at ≡ line_laid s at (follow - 1) l ∷ mended_at l.region s l.next
    walks_turn = mended_turn k fewer

pub mended_start : (s : Text) → mended_lines s ≡ mended_at Region.Head s 0
unfolding mended_lines lines_at
mended_start s = refl

-- # Measured

pub text_start : (s : Text) → mended_text s ≡ ended (texts_of (mended_at Region.Head s 0))
unfolding mended_text
text_start s = ap (λ (ls : List MendedLine). ended (texts_of ls)) (mended_start s)

pub no_text : (ls : List MendedLine) → ls ≡ [] → ended (texts_of ls) ≡ []
unfolding ended texts_of
no_text ls e = rw e

pub text_more : (m : MendedLine) (ms : List MendedLine) → ended (texts_of (m ∷ ms)) ≡ (m.text ++ crlf) ++ ended (texts_of ms)
unfolding ended texts_of
text_more m ms = refl

module _ (s : Text) (at follow : ℕ) (l : Laid) (ms : List MendedLine) where
  pub laid_more : ended (texts_of (line_laid s at follow l ∷ ms)) ≡ (text_laid s at follow l ++ crlf) ++ ended (texts_of ms)
  unfolding line_laid
  laid_more = text_more (line_laid s at follow l) ms

  pub bytes_more : length (ended (texts_of (line_laid s at follow l ∷ ms))) ≡ length (text_laid s at follow l ++ crlf) + length (ended (texts_of ms))
  bytes_more = ap length laid_more ∙ length-append (text_laid s at follow l ++ crlf) (ended (texts_of ms))

  -- # Listed

  -- What is listed of the line, as kinds or as lines.
  module _ (f : Change → ℕ) (n : ℕ) where
    pub listed_more : map f (changes_from n (line_laid s at follow l ∷ ms)) ≡ map f (changes_in n (kinds_of l.first)) ++ (map f (changes_in n (kinds_of l.second)) ++ map f (changes_from (n + 1) ms))
    unfolding changes_from changes_in line_laid
    listed_more =
        map-append f (changes_in n (kinds_of l.first ++ kinds_of l.second)) (changes_from (n + 1) ms)
        ∙ ap (λ (ns : List ℕ). ns ++ map f (changes_from (n + 1) ms)) (by (kinds_of l.first) (kinds_of l.second))
        ∙ append_assoc (map f (changes_in n (kinds_of l.first))) (map f (changes_in n (kinds_of l.second))) (map f (changes_from (n + 1) ms))
      where
        by : (a b : List ℕ) → map f (changes_in n (a ++ b)) ≡ map f (changes_in n a) ++ map f (changes_in n b)
        by [] b = refl
        by (k ∷ a) b = ap (λ (ns : List ℕ). f (record { kind = k; line = n }) ∷ ns) (by a b)

-- As much is listed as was done.
pub noted_long : (f : Change → ℕ) (n : ℕ) (ks : List ℕ) → length (map f (changes_in n ks)) ≡ length ks
unfolding changes_in
noted_long f n ks = length-map (changes_in n ks) f ∙ length-map ks (λ k. record { kind = k; line = n })

pub list_start : (f : Change → ℕ) (s : Text) → map f (changes s) ≡ map f (changes_from 1 (mended_at Region.Head s 0))
unfolding changes
list_start f s = ap (λ (ls : List MendedLine). map f (changes_from 1 ls)) (mended_start s)

pub no_list : (f : Change → ℕ) (n : ℕ) (ls : List MendedLine) → ls ≡ [] → map f (changes_from n ls) ≡ []
unfolding changes_from
no_list f n ls e = rw e

-- # Read

pub checked_from_lem : (R : Rules) (s : Text) → checked_of R s ≡ checked_from R Identifier 1 0 0 (mended_at Region.Head s 0)
unfolding checked_of
checked_from_lem R s = ap (checked_from R Identifier 1 0 0) (mended_start s)

module _ (R : Rules) (due : Due) (n bytes listed : ℕ) where
  pub checked_end : (ls : List MendedLine) → ls ≡ [] → rest_told due n bytes listed ≡ checked_from R due n bytes listed ls
  unfolding checked_from rest_told walk_lines ended texts_of changes_from
  checked_end ls e = rw (e, add-zero bytes, add-zero listed)

  module _ (s : Text) (at follow : ℕ) (l : Laid) (ms : List MendedLine) where
    abbrev line : MendedLine
    line = line_laid s at follow l

    pub checked_stop : {f : Fault} → line_next R due (text_laid s at follow l) ≡ Err f → checked_from R due n bytes listed (line ∷ ms) ≡ Err (refusal f.number n f.field)
    unfolding checked_from walk_lines line_laid texts_of checked_by on_next
    checked_stop e = rw e

    -- A line that is taken adds its bytes and what is listed of it.
    list_long : length (changes_from n (line ∷ ms)) ≡ length (kinds_of l.first) + length (kinds_of l.second) + length (changes_from (n + 1) ms)
    unfolding changes_from changes_in line_laid
    list_long =
        length-append (changes_in n (kinds_of l.first ++ kinds_of l.second)) (changes_from (n + 1) ms)
        ∙ ap (λ (k : ℕ). k + length (changes_from (n + 1) ms)) (length-map (kinds_of l.first ++ kinds_of l.second) (λ k. record { kind = k; line = n }) ∙ length-append (kinds_of l.first) (kinds_of l.second))

    taken_alike : (a b : ℕ) (t : Text) (r : Reading) → checked_by a b (put due t r) ≡ checked_by a b r
    unfolding checked_by put
    taken_alike a b t (accepted log) = refl
    taken_alike a b t (refused r) = refl

    pub checked_go : {next : Due} {long first second : ℕ} → line_next R due (text_laid s at follow l) ≡ Ok next → long ≡ length (text_laid s at follow l ++ crlf) → first ≡ length (kinds_of l.first) → second ≡ length (kinds_of l.second) → checked_from R due n bytes listed (line ∷ ms) ≡ checked_from R next (n + 1) (bytes + long) (listed + (first + second)) ms
    unfolding checked_from walk_lines line_laid texts_of on_next
    checked_go {next} {long} {first} {second} e p q r =
        let a : bytes + length (ended (texts_of (line ∷ ms))) ≡ bytes + long + length (ended (texts_of ms)) = omega (arith, bytes_more s at follow l ms, p) in
        let b : listed + length (changes_from n (line ∷ ms)) ≡ listed + (first + second) + length (changes_from (n + 1) ms) = omega (arith, list_long, q, r) in
        ap (λ (m : Result Due Fault). checked_by (bytes + length (ended (texts_of (line ∷ ms)))) (listed + length (changes_from n (line ∷ ms))) (on_next (λ d. walk_lines R d (n + 1) (texts_of ms)) n due (text_laid s at follow l) m)) e
        ∙ taken_alike (bytes + length (ended (texts_of (line ∷ ms)))) (listed + length (changes_from n (line ∷ ms))) (text_laid s at follow l) (walk_lines R next (n + 1) (texts_of ms))
        ∙ ap₂ (λ (x y : ℕ). checked_by x y (walk_lines R next (n + 1) (texts_of ms))) a b

-- # Written

-- What has still to be laid over the list, from a place on, so that it holds all in the end.
pub record Fills (before : List ℕ) (whole : Text) (d : List ℕ) (to : ℕ) (left : Text) : Type 0 where
  pub fits : to + length left ≤ length d
  pub same : length d ≡ length before
  pub all : over whole before ≡ written d to left

pub fills_from : (d : List ℕ) {whole left : Text} → whole ≡ left → length whole ≤ length d → Fills d whole d 0 left
unfolding over written
fills_from d {whole} {left} e h =
    subst (λ (t : Text). Fills d whole d 0 t) e
    (record { fits = omega arith; same = refl; all = ap (λ (n : ℕ). whole ++ drop n d) (sym (zero-add (length whole))) })

module _ {before d : List ℕ} {whole left : Text} {to : ℕ} (p : Fills before whole d to left) where
  pub fills_room : (t u : Text) → left ≡ t ++ u → to + length t ≤ length d
  fills_room t u e = omega (arith, p.fits, ap length e, length-append t u)

  pub fills_on : {t u : Text} {e : List ℕ} {r : ℕ} → left ≡ t ++ u → Puts d to t e r → Fills before whole e r u
  fills_on {t} {u} {e} {r} q k =
      let long = puts_length k in
      record {
        fits = omega (arith, p.fits, ap length q, length-append t u, k.place, long);
        same = long ∙ p.same;
        all = p.all
            ∙ ap (written d to) q
            ∙ sym (written_then d to t k.fits u)
            ∙ ap₂ (λ (x : List ℕ) (n : ℕ). written x n u) (sym k.list) (sym k.place);
      }

  pub fills_end : left ≡ [] → d ≡ over whole before
  fills_end e = sym (p.all ∙ ap (written d to) e ∙ written_nothing d to)
