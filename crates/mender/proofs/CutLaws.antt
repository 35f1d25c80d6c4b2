-- Laws of a line of a chewed text by its places: where it ends, what its end is, and where its spaces begin.
-- Assumes nothing.
use Prim.Native.Nat.{ℕ, zero, suc, ◌+◌, ◌-◌, ◌≤◌, ◌<◌}
use native.Mathlib.Nat.{zero-add}
use native.Mathlib.Omega.{arith}
use mathlib.Core.Path.{◌≡◌, refl, sym, ap, ap₂, ◌∙◌}
use mathlib.Core.Bool.{Bool, true, false, cond, not, ◌&&◌}
use mathlib.Core.List.{List, [], ◌∷◌, ◌++◌, map}
use lib.Dec.{eqb, leb, ltb}
use lib.ListN.{length, take, drop, get_or, length-drop, drop_of_length-le}
use lib.Seq.{drop-drop}
use borrow.Author.Tests.{eq-eqb, ne_eqb, le-ltb, lt-ltb, le-leb, lt-leb, leb-true, leb-false, ltb-true, ltb-false}
use Rattle.rules.specs.Text.{Text, all, allowed, span}
use Rattle.rules.specs.Mending.{ChewedLine, MendedLine, in_front, chewed_lines, ends_in_cr, without_cr, end_done, end_mended, trimmed}
use Rattle.rules.proofs.MendingLaws.{no_lf, allowed_is_no_lf, ends_behind, without_behind, trimmed_behind}
use Rattle.rules.proofs.TextLaws.{span_short}
use Rattle.reader.specs.Contact.{between}
use Rattle.writer.proofs.WrittenLaws.{part_more}
use Rattle.std.specs.Prelude.{Option, Some, None}
use Rattle.mender.specs.declared.Kind.{Kind}
use Rattle.mender.specs.declared.Kind.TheVariants.{ReturnPut, EndPut}
use Rattle.mender.specs.Lines.{lines_at, kinds_of, end_kind, EndsAt, Trims, Cuts}

-- # The end of a text

-- No text is between a place and itself; any other ends in its last character.
pub part_empty : (s : Text) (at : ℕ) → between s at at ≡ []
part_empty s at = let z : at - at ≡ 0 = omega arith in rw z

module _ (s : Text) (at end : ℕ) (forth : at < end) (within : end ≤ length s) where
  pub part_last : between s at end ≡ between s at (end - 1) ++ (get_or s (end - 1) 0 ∷ [])
  part_last =
      let e : end - 1 + 1 ≡ end = omega arith in
      ap (between s at) (sym e) ∙ part_more s at (end - 1) (omega arith) (omega arith)

-- A CR at the end is taken, and no other character.
without_other : (l : Text) (c : ℕ) → eqb c 13 ≡ false → without_cr (l ++ c ∷ []) ≡ l ++ c ∷ []
unfolding without_cr
without_other [] c e = rw e
without_other (d ∷ []) c e = rw e
without_other (d ∷ f ∷ l) c e = ap (λ (r : Text). d ∷ r) (without_other (f ∷ l) c e)

module _ (s : Text) (at feed : ℕ) (forth : at ≤ feed) (within : feed ≤ length s) where
  pub end_empty : feed ≤ at → EndsAt s at feed feed
  unfolding without_cr ends_in_cr
  end_empty h =
      let e : feed ≡ at = omega arith in
      record {
        text = rw (e, part_empty s at);
        forth = forth;
        within = omega arith;
        cr = rw (e, part_empty s at) (sym (le-ltb at at (omega arith)));
      }

  module _ (some : at < feed) where
    pub end_cr : get_or s (feed - 1) 0 ≡ 13 → EndsAt s at feed (feed - 1)
    end_cr e =
        let line = part_last s at feed some within in
        record {
          text = sym (ap without_cr line ∙ rw e (without_behind (between s at (feed - 1))));
          forth = omega arith;
          within = omega arith;
          cr = ap ends_in_cr line ∙ ends_behind (between s at (feed - 1)) (get_or s (feed - 1) 0) ∙ eq-eqb _ 13 e ∙ sym (lt-ltb (feed - 1) feed (omega arith));
        }

    pub end_other : (get_or s (feed - 1) 0 ≡ 13 → ⊥) → EndsAt s at feed feed
    end_other n =
        let line = part_last s at feed some within in
        record {
          text = line ∙ sym (ap without_cr line ∙ without_other (between s at (feed - 1)) (get_or s (feed - 1) 0) (ne_eqb _ 13 n));
          forth = forth;
          within = omega arith;
          cr = ap ends_in_cr line ∙ ends_behind (between s at (feed - 1)) (get_or s (feed - 1) 0) ∙ ne_eqb _ 13 n ∙ sym (le-ltb feed feed (omega arith));
        }

-- # The line

-- Places are compared from the front of the text or from where the line begins.
less_by : (a n m : ℕ) → a ≤ m → ltb n (m - a) ≡ ltb (a + n) m
less_by a n m h = by (ltb (a + n) m) refl
  where
    by : (b : Bool) → ltb (a + n) m ≡ b → ltb n (m - a) ≡ b
    by true e = lt-ltb n (m - a) (omega (arith, ltb-true (a + n) m e))
    by false e = le-ltb n (m - a) (omega (arith, ltb-false (a + n) m e))

most_by : (a n e r : ℕ) → a ≤ e → r ≡ a + n → leb (e - a) n ≡ leb e r
most_by a n e r h g = by (leb e r) refl
  where
    by : (b : Bool) → leb e r ≡ b → leb (e - a) n ≡ b
    by true t = le-leb (e - a) n (omega (arith, leb-true e r t))
    by false t = lt-leb (e - a) n (omega (arith, leb-false e r t))

less_suc : (a b : ℕ) → ltb (suc a) (suc b) ≡ ltb a b
less_suc a b = by (ltb a b) refl
  where
    by : (t : Bool) → ltb a b ≡ t → ltb (suc a) (suc b) ≡ t
    by true e = lt-ltb (suc a) (suc b) (omega (arith, ltb-true a b e))
    by false e = le-ltb (suc a) (suc b) (omega (arith, ltb-false a b e))

most_suc : (a b : ℕ) → leb (suc a) (suc b) ≡ leb a b
most_suc a b = by (leb a b) refl
  where
    by : (t : Bool) → leb a b ≡ t → leb (suc a) (suc b) ≡ t
    by true e = le-leb (suc a) (suc b) (omega (arith, leb-true a b e))
    by false e = lt-leb (suc a) (suc b) (omega (arith, leb-false a b e))

-- The first line goes on up to the first LF, or to the end.
pub first_line_lem : (c : ℕ) (u : Text) → chewed_lines (c ∷ u) ≡ record { text = take (span no_lf (c ∷ u)) (c ∷ u); ends = ltb (span no_lf (c ∷ u)) (suc (length u)) } ∷ chewed_lines (drop (suc (span no_lf (c ∷ u))) (c ∷ u))
unfolding chewed_lines span in_front
first_line_lem c [] = by (eqb c 10)
  where
    by : (b : Bool) → cond b (record { text = []; ends = true } ∷ []) (in_front c []) ≡ record { text = take (cond (not b) 1 0) (c ∷ []); ends = ltb (cond (not b) 1 0) 1 } ∷ chewed_lines (drop (suc (cond (not b) 1 0)) (c ∷ []))
    by true = refl
    by false = refl
first_line_lem c (d ∷ u) = by (eqb c 10) (first_line_lem d u)
  where
    by : (b : Bool) → chewed_lines (d ∷ u) ≡ record { text = take (span no_lf (d ∷ u)) (d ∷ u); ends = ltb (span no_lf (d ∷ u)) (suc (length u)) } ∷ chewed_lines (drop (suc (span no_lf (d ∷ u))) (d ∷ u)) → cond b (record { text = []; ends = true } ∷ chewed_lines (d ∷ u)) (in_front c (chewed_lines (d ∷ u))) ≡ record { text = take (cond (not b) (suc (span no_lf (d ∷ u))) 0) (c ∷ d ∷ u); ends = ltb (cond (not b) (suc (span no_lf (d ∷ u))) 0) (suc (suc (length u))) } ∷ chewed_lines (drop (suc (cond (not b) (suc (span no_lf (d ∷ u))) 0)) (c ∷ d ∷ u))
    by true h = ap (λ (b : Bool). record { text = []; ends = b } ∷ chewed_lines (d ∷ u)) (sym (lt-ltb 0 (suc (suc (length u))) (omega arith)))
    by false h = ap (in_front c) h ∙ ap (λ (b : Bool). record { text = c ∷ take (span no_lf (d ∷ u)) (d ∷ u); ends = b } ∷ chewed_lines (drop (suc (span no_lf (d ∷ u))) (d ∷ u))) (sym (less_suc (span no_lf (d ∷ u)) (suc (length u))))

-- # Runs

-- A run within a longer one: what is left of the longer one is counted from its end on.
pub run_through : (f g : ℕ → Bool) → ((c : ℕ) → f c ≡ true → g c ≡ true) → (u : Text) → span g u ≡ span f u + span g (drop (span f u) u)
unfolding span
run_through f g h [] = refl
run_through f g h (c ∷ u) = by (f c) refl (run_through f g h u)
  where
    by : (b : Bool) → f c ≡ b → span g u ≡ span f u + span g (drop (span f u) u) → span g (c ∷ u) ≡ cond b (suc (span f u)) 0 + span g (drop (cond b (suc (span f u)) 0) (c ∷ u))
    by true e i = rw (h c e) (ap suc i ∙ omega arith)
    by false e i = sym (zero-add (span g (c ∷ u)))

-- All characters up to a place pass where the run goes as far.
pub all_by_run : (f : ℕ → Bool) (u : Text) (m : ℕ) → m ≤ length u → all f (take m u) ≡ leb m (span f u)
unfolding all span
all_by_run f u zero h = sym (le-leb 0 (span f u) (omega arith))
all_by_run f [] (suc m) h = absurd (omega arith)
all_by_run f (c ∷ u) (suc m) h = by (f c) (all_by_run f u m (omega arith))
  where
    by : (b : Bool) → all f (take m u) ≡ leb m (span f u) → (b && all f (take m u)) ≡ leb (suc m) (cond b (suc (span f u)) 0)
    by true i = i ∙ sym (most_suc m (span f u))
    by false i = sym (lt-leb (suc m) 0 (omega arith))

-- # Spaces

pub trimmed_space : (t : Text) → trimmed (t ++ 32 ∷ []) ≡ trimmed t
unfolding trimmed
trimmed_space [] = refl
trimmed_space (c ∷ t) = rw (trimmed_space t)

-- The spaces behind a place are dropped.
pub record Trimming (s : Text) (at end i : ℕ) : Type 0 where
  pub left : trimmed (between s at i) ≡ trimmed (between s at end)
  pub forth : at ≤ i
  pub within : i ≤ end

module _ {s : Text} {at end i : ℕ} (inside : end ≤ length s) (p : Trimming s at end i) where
  pub trims_none : i ≤ at → Trims s at end i
  unfolding trimmed
  trims_none h =
      let e : i ≡ at = omega (arith, p.forth) in
      record {
        text = ap (between s at) e ∙ part_empty s at ∙ sym (ap trimmed (ap (between s at) e ∙ part_empty s at)) ∙ p.left;
        forth = p.forth;
        within = p.within;
      }

  module _ (some : at < i) where
    abbrev line : between s at i ≡ between s at (i - 1) ++ (get_or s (i - 1) 0 ∷ [])
    line = part_last s at i some (omega (arith, p.within, inside))

    pub trims_here : (get_or s (i - 1) 0 ≡ 32 → ⊥) → Trims s at end i
    unfolding trimmed
    trims_here n =
        let kept : trimmed (between s at i) ≡ between s at i =
        ap trimmed line ∙ trimmed_behind (between s at (i - 1)) (get_or s (i - 1) 0) [] (ne_eqb _ 32 n) refl ∙ sym line in
        record { text = sym kept ∙ p.left; forth = p.forth; within = p.within }

    pub trims_on : get_or s (i - 1) 0 ≡ 32 → Trimming s at end (i - 1)
    trims_on e =
        let shorter : trimmed (between s at i) ≡ trimmed (between s at (i - 1)) =
        ap trimmed (line ∙ ap (λ (c : ℕ). between s at (i - 1) ++ (c ∷ [])) e) ∙ trimmed_space (between s at (i - 1)) in
        record { left = sym shorter ∙ p.left; forth = omega arith; within = omega (arith, p.within) }

-- # All that is told of a line

first_of : (u : Text) → 0 < length u → chewed_lines u ≡ record { text = take (span no_lf u) u; ends = ltb (span no_lf u) (length u) } ∷ chewed_lines (drop (suc (span no_lf u)) u)
first_of [] h = absurd (omega arith)
first_of (c ∷ u) h = first_line_lem c u

kinds_by : (ends cr : Bool) → cond ends (cond cr [] (1 ∷ [])) (2 ∷ []) ≡ kinds_of (cond ends (cond cr None (Some ReturnPut)) (Some EndPut))
unfolding kinds_of
kinds_by true true = refl
kinds_by true false = refl
kinds_by false true = refl
kinds_by false false = refl

module _ (s : Text) (at : ℕ) (some : at < length s) {run feed : ℕ} (ran : run ≡ at + span allowed (drop at s)) (fed : feed ≡ run + span no_lf (drop run s)) where
  -- The line's LF, or the end, is found behind the allowed characters at its front.
  feed_is : feed ≡ at + span no_lf (drop at s)
  feed_is =
      let through = run_through allowed no_lf (λ c e. allowed_is_no_lf c e) (drop at s) in
      let there : drop (span allowed (drop at s)) (drop at s) ≡ drop run s = drop-drop (span allowed (drop at s)) at s ∙ ap (λ (i : ℕ). drop i s) (sym ran) in
      let more : span no_lf (drop (span allowed (drop at s)) (drop at s)) ≡ span no_lf (drop run s) = ap (span no_lf) there in
      omega (arith, ran, fed, through, more)

  pub feed_forth : at ≤ feed
  feed_forth = omega (arith, feed_is)

  pub feed_within : feed ≤ length s
  feed_within = omega (arith, feed_is, span_short no_lf (drop at s), length-drop at s)

  module _ {end : ℕ} (e : EndsAt s at feed end) where
    abbrev whole : ChewedLine
    whole = record { text = between s at feed; ends = ltb feed (length s) }

    line_there : chewed_lines (drop at s) ≡ whole ∷ chewed_lines (drop (feed + 1) s)
    line_there =
        let n = span no_lf (drop at s) in
        let long : n ≡ feed - at = omega (arith, feed_is) in
        let ends : ltb n (length (drop at s)) ≡ ltb feed (length s) =
        ap (ltb n) (length-drop at s) ∙ less_by at n (length s) (omega arith) ∙ ap (λ (i : ℕ). ltb i (length s)) (sym feed_is) in
        let far : at + suc n ≡ feed + 1 = omega (arith, feed_is) in
        let rest : drop (suc n) (drop at s) ≡ drop (feed + 1) s = drop-drop (suc n) at s ∙ ap (λ (i : ℕ). drop i s) far in
        first_of (drop at s) (omega (arith, length-drop at s))
        ∙ ap (λ (l : ChewedLine). l ∷ chewed_lines (drop (suc n) (drop at s))) (ap₂ (λ (t : Text) (b : Bool). record { text = t; ends = b }) (ap (λ (i : ℕ). take i (drop at s)) long) ends)
        ∙ ap (λ (u : Text). whole ∷ chewed_lines u) rest

    end_told : end_mended whole ≡ record { text = between s at end; done = kinds_of (end_kind (length s) feed end) }
    unfolding end_mended end_done
    end_told =
        ap₂ (λ (t : Text) (ks : List ℕ). record { text = t; done = ks }) (sym e.text)
        (ap (λ (b : Bool). cond (ltb feed (length s)) (cond b [] (1 ∷ [])) (2 ∷ [])) e.cr ∙ kinds_by (ltb feed (length s)) (ltb end feed))

    pub cuts : {done : Option Kind} → done ≡ end_kind (length s) feed end → Cuts s at (record { end = end; next = feed + 1; done = done; clean = leb end run })
    unfolding lines_at
    cuts d =
        record {
          lines = ap (map end_mended) line_there
              ∙ ap (λ (l : MendedLine). l ∷ map end_mended (chewed_lines (drop (feed + 1) s))) (end_told ∙ ap (λ (k : Option Kind). record { text = between s at end; done = kinds_of k }) (sym d));
          spans = record {
            forth = e.forth;
            within = omega (arith, e.within, feed_within);
            behind = omega (arith, e.within);
            near = omega (arith, feed_within);
          };
          clean = all_by_run allowed (drop at s) (end - at) (omega (arith, e.within, feed_within, length-drop at s))
              ∙ most_by at (span allowed (drop at s)) end run e.forth ran;
        }

-- At the end, and behind it, there is no line.
pub no_lines_lem : (s : Text) (at : ℕ) → length s ≤ at → lines_at s at ≡ []
unfolding lines_at chewed_lines
no_lines_lem s at h = rw (drop_of_length-le s h)

pub some_lines : (s : Text) (at : ℕ) → at < length s → 1 ≤ length (lines_at s at)
unfolding lines_at
some_lines s at h =
    let n = span no_lf (drop at s) in
    let line : ChewedLine = record { text = take n (drop at s); ends = ltb n (length (drop at s)) } in
    let more = ap (λ (ls : List ChewedLine). length (map end_mended ls)) (first_of (drop at s) (omega (arith, length-drop at s))) in
    omega (arith, more)
