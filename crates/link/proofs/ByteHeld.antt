-- One byte: what it makes of the state is what it makes of the link of the rules.
-- Assumes nothing.
use Prim.Native.Nat.{ℕ, ◌+◌, ◌≤◌, ◌<◌}
use native.Mathlib.Omega.{arith}
use mathlib.Core.Path.{◌≡◌, refl, sym, ap, subst, ◌∙◌}
use mathlib.Core.Bool.{Bool, true, false, cond, ◌&&◌}
use mathlib.Core.List.{List, [], ◌∷◌, ◌++◌}
use lib.Dec.{eqb, ltb}
use lib.ListN.{length, length-append}
use borrow.Author.Tests.{lt-ltb, le-ltb, ltb-true}
use Rattle.rules.specs.declared.Due.{Due}
use Rattle.rules.specs.declared.Due.TheVariants.{Identifier, Keyword, Remarks, Remark, Record, End}
use Rattle.rules.specs.Text.{Text, allowed}
use Rattle.rules.specs.Rules.{Rules}
use Rattle.rules.specs.Link.{Lent, log_of}
use Rattle.rules.specs.Link as Asked
use Rattle.rules.proofs.Tests.{clash}
use Rattle.writer.proofs.WrittenLaws.{written_length}
use Rattle.session.proofs.SliceLaws.{front_written}
use Rattle.link.specs.declared.Link.{Link}
use Rattle.link.specs.Link.{Holding, holding, held_as, due_of, begun, has_return, is_end, finishes, with_text, with_return, on_link, no_line_here, behind_return, in_line, of_line, placed}
use Rattle.link.specs.Keeping.{FitsLink, Keeps}
use Rattle.link.proofs.LogGrows.{records_of}
use Rattle.link.proofs.DueLaws.{Staged, is_head, head_stage}
use Rattle.link.proofs.HeldLaws.{LineHeld, lent, Open, Kept, due_same, keeps_same, stops_here, lent_same}
use Rattle.link.proofs.HeadHeld.{head_finishes}
use Rattle.link.proofs.RecordHeld.{record_finishes}

module _ {R : Rules} (F : FitsLink R) (verdicts worked : List ℕ) (total left : ℕ) (k : Asked.Link) (h : Holding) (keeps : Keeps R k verdicts worked h) (o : Open F verdicts worked total left k h.link) (room : length k.finished < k.count) where
  abbrev lends : Lent
  lends = lent F verdicts worked

  abbrev Holds : Asked.Link → Holding → Type 0
  Holds = Kept F verdicts worked total left

  abbrev s : Link
  s = h.link

  none_here : Holds (Asked.no_line_here k) (no_line_here h)
  unfolding Asked.no_line_here no_line_here
  none_here = stops_here F verdicts worked total left k h keeps o 2 0 refl

  -- # The CR, or one character more

  -- The unfinished line alone is another.
  line_held : (begun : Text) (returned : Bool) (t : Link) → t ≡ held_as t.held t.returned t.line s → LineHeld R begun returned t.held t.returned t.line → Holds (Asked.holding k begun returned) (holding t h.verdicts h.worked)
  unfolding Asked.holding log_of
  line_held begun returned t e line =
      subst (λ (u : Link). Holds (Asked.holding k begun returned) (holding u h.verdicts h.worked)) (sym e)
      (record {
        keeps = keeps_same F verdicts worked k (Asked.holding k begun returned) refl h (held_as t.held t.returned t.line s) keeps.refusal_is (omega arith) keeps;
        unless = λ u. record { bytes = o.bytes; line = line; log = o.log };
      })

  with_return_lem : Holds (Asked.holding k k.begun true) (on_link with_return h)
  unfolding with_return
  with_return_lem =
      line_held k.begun true (with_return s) refl
      (record {
        held_is = o.line.held_is;
        begun_is = o.line.begun_is;
        long = o.line.long;
        short = o.line.short;
        returned_is = refl;
      })

  module _ (b : ℕ) (plain : k.returned ≡ false) (below : length k.begun < R.longest_line) where
    fits_line : s.held + 1 ≤ length s.line
    fits_line = omega (arith, o.line.held_is, o.line.long, below, F.line)

    with_character : Holds (Asked.holding k (k.begun ++ (b ∷ [])) false) (on_link (with_text (b ∷ [])) h)
    unfolding with_text
    with_character =
        let more = length-append k.begun (b ∷ []) in
        line_held (k.begun ++ (b ∷ [])) false (with_text (b ∷ []) s) refl
        (record {
          held_is = omega (arith, o.line.held_is, more);
          begun_is = front_written s.line s.held 1 (b ∷ []) refl fits_line ∙ ap (λ (t : Text). t ++ (b ∷ [])) o.line.begun_is;
          long = written_length s.line s.held (b ∷ []) fits_line ∙ o.line.long;
          short = omega (arith, more, below);
          returned_is = o.line.returned_is ∙ plain;
        })

  in_line_lem : (b : ℕ) → k.returned ≡ false → Holds (Asked.in_line R k b) (in_line R h b)
  unfolding Asked.in_line in_line
  in_line_lem b plain = by (eqb b 13)
    where
      more : Asked.Link
      more = Asked.holding k (k.begun ++ (b ∷ [])) false

      longer : Holding
      longer = on_link (with_text (b ∷ [])) h

      fits : Bool
      fits = ltb (length k.begun) R.longest_line

      room_there : (c : Bool) → fits ≡ c → Holds (cond c more (Asked.no_line_here k)) (cond c longer (no_line_here h))
      room_there true e = with_character b plain (ltb-true (length k.begun) R.longest_line e)
      room_there false e = none_here

      character : (a : Bool) → Holds (cond (a && fits) more (Asked.no_line_here k)) (cond (a && ltb s.held R.longest_line) longer (no_line_here h))
      character true =
          subst (λ (n : ℕ). Holds (cond fits more (Asked.no_line_here k)) (cond (ltb n R.longest_line) longer (no_line_here h))) (sym o.line.held_is) (room_there fits refl)
      character false = none_here

      by : (r : Bool) → Holds (cond r (Asked.holding k k.begun true) (cond (allowed b && fits) more (Asked.no_line_here k))) (cond r (on_link with_return h) (cond (allowed b && ltb s.held R.longest_line) longer (no_line_here h)))
      by true = with_return_lem
      by false = character (allowed b)

  -- # The LF

  line_finishes : is_end k.due ≡ false → Holds (Asked.finishes R lends k) (finishes R h (begun s))
  unfolding finishes
  line_finishes line =
      subst (λ (t : Text). Holds (Asked.finishes R lends k) (finishes R h t)) (sym o.line.begun_is) (by k.due refl)
    where
      in_head_lem : is_head k.due ≡ true → Holds (Asked.finishes R lends k) (finishes R h k.begun)
      in_head_lem e =
          let at = head_stage k.due s.stage s.records s.done (length (records_of k)) k.announced e o.log.staged in
          rw (lt-ltb s.stage 39 at.0, lent_same F verdicts worked k h keeps o.log.fit) (head_finishes F verdicts worked total left k h keeps o room e)

      in_records_lem : (m : ℕ) → k.due ≡ Record m → Holds (Asked.finishes R lends k) (finishes R h k.begun)
      in_records_lem m e =
          let at = subst (λ (d : Due). Staged d s.stage s.records s.done (length (records_of k)) k.announced) e o.log.staged in
          rw (le-ltb s.stage 39 (omega (arith, at.0))) (record_finishes F verdicts worked total left k h keeps o room m e)

      by : (due : Due) → k.due ≡ due → Holds (Asked.finishes R lends k) (finishes R h k.begun)
      by Identifier e = in_head_lem (ap is_head e)
      by (Keyword n) e = in_head_lem (ap is_head e)
      by Remarks e = in_head_lem (ap is_head e)
      by Remark e = in_head_lem (ap is_head e)
      by (Record m) e = in_records_lem m e
      by End e = clash (ap is_end e) line

  behind_return_lem : (b : ℕ) → is_end k.due ≡ false → Holds (Asked.behind_return R lends k b) (behind_return R h b)
  unfolding Asked.behind_return behind_return
  behind_return_lem b line = by (eqb b 10)
    where
      by : (f : Bool) → Holds (cond f (Asked.finishes R lends k) (Asked.no_line_here k)) (cond f (finishes R h (begun s)) (no_line_here h))
      by true = line_finishes line
      by false = none_here

  -- # Any byte

  of_line_lem : (b : ℕ) → is_end k.due ≡ false → Holds (Asked.of_line R lends k b) (of_line R h b)
  unfolding Asked.of_line of_line
  of_line_lem b line = by k.returned refl (has_return s) o.line.returned_is
    where
      by : (r : Bool) → k.returned ≡ r → (c : Bool) → c ≡ k.returned → Holds (cond r (Asked.behind_return R lends k b) (Asked.in_line R k b)) (cond c (behind_return R h b) (in_line R h b))
      by true e true f = behind_return_lem b line
      by true e false f = clash e (sym f)
      by false e true f = clash (sym f) e
      by false e false f = in_line_lem b e

  pub byte_placed : (b : ℕ) → Holds (Asked.placed R lends k.due k b) (placed R h b (due_of s))
  unfolding Asked.placed placed
  byte_placed b =
      subst (λ (due : Due). Holds (Asked.placed R lends k.due k b) (placed R h b due)) (sym (due_same F verdicts worked o)) (by k.due refl)
    where
      line : (due : Due) → k.due ≡ due → is_end due ≡ false → Holds (Asked.of_line R lends k b) (of_line R h b)
      line due e n = of_line_lem b (ap is_end e ∙ n)

      by : (due : Due) → k.due ≡ due → Holds (Asked.placed R lends due k b) (placed R h b due)
      by Identifier e = line Identifier e refl
      by (Keyword n) e = line (Keyword n) e refl
      by Remarks e = line Remarks e refl
      by Remark e = line Remark e refl
      by (Record m) e = line (Record m) e refl
      by End e = stops_here F verdicts worked total left k h keeps o 6 0 refl
