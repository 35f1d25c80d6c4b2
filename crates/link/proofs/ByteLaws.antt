-- Bytes of a piece: what comes of a whole run of them at once.
-- Assumes nothing.
use Prim.Native.Nat.{ℕ, ◌+◌, ◌≤◌, ◌<◌}
use native.Mathlib.Omega.{arith}
use mathlib.Core.Path.{◌≡◌, refl, sym, ap, ◌∙◌}
use mathlib.Core.Bool.{Bool, true, false, cond}
use mathlib.Core.List.{List, [], ◌∷◌, ◌++◌}
use lib.Dec.{eqb, leb, ltb}
use lib.ListN.{length, length-append}
use borrow.Author.Tests.{lt-ltb, le-ltb, leb-true, ltb-true, ltb-false, ne_eqb}
use Rattle.std.specs.Prelude.{Result, Ok, Err}
use Rattle.rules.specs.declared.Fault.{Fault}
use Rattle.rules.specs.declared.Due.{Due}
use Rattle.rules.specs.declared.Due.TheVariants.{Identifier, Keyword, Remarks, Remark, Record, End}
use Rattle.rules.specs.Text.{Text, allowed, all}
use Rattle.rules.specs.Rules.{Rules}
use Rattle.rules.specs.Reading.{refusal, step}
use Rattle.rules.specs.Link.{Lent}
use Rattle.rules.proofs.Tests.{and_l, and_r, never, clash}
use Rattle.writer.specs.Written.{written}
use Rattle.writer.proofs.WrittenLaws.{written_nothing, written_length, written_then}
use Rattle.session.proofs.SliceLaws.{front_written}
use Rattle.link.specs.declared.Link.{Link}
use Rattle.link.specs.Link.{Holding, holding, stopped, is_open, line_of, due_of, is_end, begun, has_return, head_goes, head_next, head_line, went_on, record_told, record_line, with_record, lent_by, finishes, held_as, with_text, with_return, on_link, no_line_here, behind_return, in_line, of_line, placed, byte_in, bytes_in}

module _ (R : Rules) where
  -- # One byte

  -- A refusal stays.
  pub bytes_refused : (h : Holding) (s : Text) → is_open h.link ≡ false → bytes_in R h s ≡ h
  unfolding bytes_in byte_in
  bytes_refused h [] e = refl
  bytes_refused h (b ∷ s) e = rw e (bytes_refused h s e)

  placed_line : (h : Holding) (b : ℕ) (due : Due) → is_end due ≡ false → placed R h b due ≡ of_line R h b
  unfolding placed
  placed_line h b Identifier e = refl
  placed_line h b (Keyword k) e = refl
  placed_line h b Remarks e = refl
  placed_line h b Remark e = refl
  placed_line h b (Record n) e = refl
  placed_line h b End e = clash refl e

  placed_end : (h : Holding) (b : ℕ) (due : Due) → is_end due ≡ true → placed R h b due ≡ stopped h (refusal 6 (line_of h.link) 0)
  unfolding placed
  placed_end h b Identifier e = never e
  placed_end h b (Keyword k) e = never e
  placed_end h b Remarks e = never e
  placed_end h b Remark e = never e
  placed_end h b (Record n) e = never e
  placed_end h b End e = refl

  -- Behind the last record no byte can come.
  pub bytes_beyond : (h : Holding) (b : ℕ) (s : Text) → is_open h.link ≡ true → is_end (due_of h.link) ≡ true → bytes_in R h (b ∷ s) ≡ stopped h (refusal 6 (line_of h.link) 0)
  unfolding bytes_in byte_in
  bytes_beyond h b s o d =
      rw (o, placed_end h b (due_of h.link) d) (bytes_refused (stopped h (refusal 6 (line_of h.link) 0)) s (unfold stopped in refl))

  -- A line is coming.
  pub record Coming (h : Holding) : Type 0 where
    pub unrefused : is_open h.link ≡ true
    pub line : is_end (due_of h.link) ≡ false

  byte_of : (h : Holding) (b : ℕ) (s : Text) → Coming h → bytes_in R h (b ∷ s) ≡ bytes_in R (of_line R h b) s
  unfolding bytes_in byte_in
  byte_of h b s c = rw (c.unrefused, placed_line h b (due_of h.link) c.line)

  none_here : (h : Holding) (s : Text) → bytes_in R (no_line_here h) s ≡ no_line_here h
  unfolding no_line_here stopped
  none_here h s = bytes_refused (no_line_here h) s refl

  -- Behind the CR.
  pub bytes_feed : (h : Holding) (s : Text) → Coming h → has_return h.link ≡ true → bytes_in R h (10 ∷ s) ≡ bytes_in R (finishes R h (begun h.link)) s
  unfolding of_line behind_return
  bytes_feed h s c r = byte_of h 10 s c ∙ rw r

  pub bytes_no_feed : (h : Holding) (b : ℕ) (s : Text) → Coming h → has_return h.link ≡ true → eqb b 10 ≡ false → bytes_in R h (b ∷ s) ≡ no_line_here h
  unfolding of_line behind_return
  bytes_no_feed h b s c r e = byte_of h b s c ∙ rw (r, e) (none_here h s)

  module _ (h : Holding) (c : Coming h) (plain : has_return h.link ≡ false) where
    byte_in_lem : (b : ℕ) (s : Text) → bytes_in R h (b ∷ s) ≡ bytes_in R (in_line R h b) s
    unfolding of_line
    byte_in_lem b s = byte_of h b s c ∙ rw plain

    bytes_return : (s : Text) → bytes_in R h (13 ∷ s) ≡ bytes_in R (on_link with_return h) s
    unfolding in_line
    bytes_return s = byte_in_lem 13 s

    bytes_stray : (b : ℕ) (s : Text) → eqb b 13 ≡ false → allowed b ≡ false → bytes_in R h (b ∷ s) ≡ no_line_here h
    unfolding in_line
    bytes_stray b s e a = byte_in_lem b s ∙ rw (e, a) (none_here h s)

    bytes_too_many : (b : ℕ) (s : Text) → allowed b ≡ true → eqb b 13 ≡ false → R.longest_line ≤ h.link.held → bytes_in R h (b ∷ s) ≡ no_line_here h
    unfolding in_line
    bytes_too_many b s a e l = byte_in_lem b s ∙ rw (e, a, le-ltb h.link.held R.longest_line l) (none_here h s)

    bytes_character : (b : ℕ) (s : Text) → allowed b ≡ true → eqb b 13 ≡ false → h.link.held < R.longest_line → bytes_in R h (b ∷ s) ≡ bytes_in R (on_link (with_text (b ∷ [])) h) s
    unfolding in_line
    bytes_character b s a e l = byte_in_lem b s ∙ rw (e, a, lt-ltb h.link.held R.longest_line l)

  -- # A run of characters

  -- No allowed character is a CR.
  not_return : (b : ℕ) → allowed b ≡ true → eqb b 13 ≡ false
  not_return b a = ne_eqb b 13 (λ e. let h = leb-true 32 b (and_l (leb 32 b) (leb b 127) a) in omega arith)

  -- One text behind another.
  text_then : (s : Link) (t u : Text) → s.held + length t ≤ length s.line → with_text u (with_text t s) ≡ with_text (t ++ u) s
  unfolding with_text
  text_then s t u h =
      let long : s.held + length t + length u ≡ s.held + length (t ++ u) = omega (arith, length-append t u) in
      (λ i. held_as (long i) s.returned (written_then s.line s.held t h u i) s)

  no_text : (s : Link) → with_text [] s ≡ s
  unfolding with_text
  no_text s =
      let long : s.held + 0 ≡ s.held = omega arith in
      (λ i. held_as (long i) s.returned (written_nothing s.line s.held i) s)

  held_text : (s : Link) (t : Text) → (with_text t s).held ≡ s.held + length t
  unfolding with_text
  held_text s t = refl

  text_length : (s : Link) (t : Text) → s.held + length t ≤ length s.line → length (with_text t s).line ≡ length s.line
  unfolding with_text
  text_length s t h = written_length s.line s.held t h

  -- The line of the state has room for all the characters of a line.
  pub record Buffered (h : Holding) : Type 0 where
    pub coming : Coming h
    pub plain : has_return h.link ≡ false
    pub room : R.longest_line ≤ length h.link.line

  buffered_text : (h : Holding) (t : Text) → Buffered h → h.link.held + length t ≤ R.longest_line → Buffered (on_link (with_text t) h)
  buffered_text h t b l =
      record {
        coming = unfold with_text in record { unrefused = b.coming.unrefused; line = b.coming.line };
        plain = unfold with_text in b.plain;
        room = rw (text_length h.link t (omega (arith, b.room, l))) b.room;
      }

  -- Characters that fit are all put behind those that are held.
  pub bytes_run : (u : Text) (h : Holding) (t : Text) → Buffered h → all allowed u ≡ true → h.link.held + length u ≤ R.longest_line → bytes_in R h (u ++ t) ≡ bytes_in R (on_link (with_text u) h) t
  unfolding all
  bytes_run [] h t b a l = ap (λ (s : Link). bytes_in R (holding s h.verdicts h.worked) t) (sym (no_text h.link))
  bytes_run (c ∷ u) h t b a l =
      let good = and_l (allowed c) (all allowed u) a in
      let one = on_link (with_text (c ∷ [])) h in
      bytes_character h b.coming b.plain c (u ++ t) good (not_return c good) (omega arith)
      ∙ bytes_run u one t (buffered_text h (c ∷ []) b (omega arith)) (and_r (allowed c) (all allowed u) a) (omega (arith, held_text h.link (c ∷ []), l))
      ∙ ap (λ (s : Link). bytes_in R (holding s h.verdicts h.worked) t) (text_then h.link (c ∷ []) u (omega (arith, b.room, l)))

  -- Characters of which one is too many.
  pub bytes_too_long : (u : Text) (h : Holding) (t : Text) → Buffered h → all allowed u ≡ true → R.longest_line < h.link.held + length u → h.link.held ≤ R.longest_line → bytes_in R h (u ++ t) ≡ no_line_here h
  unfolding all
  bytes_too_long [] h t b a l few = absurd (omega arith)
  bytes_too_long (c ∷ u) h t b a l few =
      by (bytes_too_long u (on_link (with_text (c ∷ [])) h) t) (ltb h.link.held R.longest_line) refl
    where
      good : allowed c ≡ true
      good = and_l (allowed c) (all allowed u) a

      by : (Buffered (on_link (with_text (c ∷ [])) h) → all allowed u ≡ true → R.longest_line < (with_text (c ∷ []) h.link).held + length u → (with_text (c ∷ []) h.link).held ≤ R.longest_line → bytes_in R (on_link (with_text (c ∷ [])) h) (u ++ t) ≡ no_line_here (on_link (with_text (c ∷ [])) h)) → (room : Bool) → ltb h.link.held R.longest_line ≡ room → bytes_in R h (c ∷ u ++ t) ≡ no_line_here h
      by more true e =
          let below = ltb-true h.link.held R.longest_line e in
          bytes_character h b.coming b.plain c (u ++ t) good (not_return c good) below
          ∙ more (buffered_text h (c ∷ []) b (omega arith)) (and_r (allowed c) (all allowed u) a) (omega (arith, held_text h.link (c ∷ []), l)) (omega (arith, held_text h.link (c ∷ []), below))
          ∙ (unfold no_line_here stopped with_text in refl)
      by more false e =
          bytes_too_many h b.coming b.plain c (u ++ t) good (not_return c good) (ltb-false h.link.held R.longest_line e)

  -- What is told of a finished line does not rest on where its characters were kept.
  module _ (s : Link) (held returned : ℕ) (line : List ℕ) (l : Text) where
    abbrev other : Link
    other = held_as held returned line s

    head_same : (lent : Lent) → head_line R lent other l ≡ head_line R lent s l
    unfolding head_line
    head_same lent = by (step R (due_of s) l)
      where
        goes : (next : Due) → head_goes R lent other l next ≡ head_goes R lent s l next
        goes Identifier = unfold head_goes went_on in refl
        goes (Keyword k) = unfold head_goes went_on in refl
        goes Remarks = unfold head_goes went_on in refl
        goes Remark = unfold head_goes went_on in refl
        goes (Record n) = unfold head_goes went_on in refl
        goes End = unfold head_goes went_on in refl

        by : (m : Result Due Fault) → head_next R lent other l m ≡ head_next R lent s l m
        by (Ok next) = unfold head_next in goes next
        by (Err e) = unfold head_next in refl

    record_same : (verdicts worked : List ℕ) → record_line R (holding other verdicts worked) l ≡ record_line R (holding s verdicts worked) l
    unfolding record_line record_told with_record
    record_same verdicts worked = refl

  lines_same : (h : Holding) (held returned : ℕ) (line : List ℕ) (l : Text) → finishes R (on_link (held_as held returned line) h) l ≡ finishes R h l
  unfolding finishes
  lines_same h held returned line l =
      (λ i. cond (ltb h.link.stage 39) (holding (head_same h.link held returned line l (lent_by h) i) h.verdicts h.worked) (record_same h.link held returned line l h.verdicts h.worked i))

  -- # A piece of a line

  module _ (h : Holding) (u t : Text) (b : Buffered h) (a : all allowed u ≡ true) where
    abbrev on : Holding
    on = on_link (with_text u) h

    module _ (fits : h.link.held + length u ≤ R.longest_line) where
      run : (v : Text) → bytes_in R h (u ++ v) ≡ bytes_in R on v
      run v = bytes_run u h v b a fits

      after_run : Buffered on
      after_run = buffered_text h u b fits

      same_line : line_of on.link ≡ line_of h.link
      unfolding with_text
      same_line = refl

      none_behind : no_line_here on ≡ no_line_here h
      unfolding no_line_here stopped with_text
      none_behind = refl

      -- The piece ends: the characters are held, or the CR too.
      pub piece_held : bytes_in R h (u ++ []) ≡ on
      piece_held = run [] ∙ unfold bytes_in in refl

      pub piece_returned : bytes_in R h (u ++ 13 ∷ []) ≡ on_link with_return on
      piece_returned = run (13 ∷ []) ∙ bytes_return on after_run.coming after_run.plain [] ∙ unfold bytes_in in refl

      -- The line is finished.
      coming_returned : Coming (on_link with_return on)
      coming_returned = unfold with_return in record { unrefused = after_run.coming.unrefused; line = after_run.coming.line }

      begun_behind : begun on.link ≡ begun h.link ++ u
      unfolding with_text
      begun_behind =
          front_written h.link.line h.link.held (length u) u refl (omega (arith, b.room, fits))

      pub piece_line : bytes_in R h (u ++ 13 ∷ 10 ∷ t) ≡ bytes_in R (finishes R h (begun h.link ++ u)) t
      piece_line =
          run (13 ∷ 10 ∷ t)
          ∙ bytes_return on after_run.coming after_run.plain (10 ∷ t)
          ∙ bytes_feed (on_link with_return on) t coming_returned (unfold with_return in refl)
          ∙ ap (λ (g : Holding). bytes_in R g t) finished_same
        where
          finished_same : finishes R (on_link with_return on) (begun (on_link with_return on).link) ≡ finishes R h (begun h.link ++ u)
          finished_same =
              unfold with_return with_text in lines_same h (h.link.held + length u) 1 (written h.link.line h.link.held u) (begun on.link)
              ∙ ap (finishes R h) begun_behind

      -- No line can come of it: neither a CR behind the characters, nor LF behind the CR.
      pub piece_stray : (c : ℕ) → allowed c ≡ false → eqb c 13 ≡ false → bytes_in R h (u ++ c ∷ t) ≡ no_line_here h
      piece_stray c n e = run (c ∷ t) ∙ bytes_stray on after_run.coming after_run.plain c t e n ∙ none_behind

      pub piece_no_feed : (c : ℕ) → eqb c 10 ≡ false → bytes_in R h (u ++ 13 ∷ c ∷ t) ≡ no_line_here h
      piece_no_feed c e =
          run (13 ∷ c ∷ t)
          ∙ bytes_return on after_run.coming after_run.plain (c ∷ t)
          ∙ bytes_no_feed (on_link with_return on) c t coming_returned (unfold with_return in refl) e
          ∙ (unfold no_line_here stopped with_return with_text in refl)
