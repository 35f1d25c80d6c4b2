-- The walk over a piece, from line to line: what stands at each, and how it ends.
-- Assumes nothing.
use Prim.Native.Nat.{ℕ, ◌+◌, ◌-◌, ◌≤◌, ◌<◌}
use native.Mathlib.Omega.{arith}
use mathlib.Core.Path.{◌≡◌, refl, sym, ap, subst, ◌∙◌}
use mathlib.Core.Bool.{Bool, true, false, cond, and-false}
use mathlib.Core.List.{◌++◌}
use lib.Dec.{ltb}
use lib.ListN.{length, drop, drop_of_length-le}
use Rattle.std.specs.Prelude.{Result, Ok, Err}
use Rattle.rules.specs.declared.Fault.{Fault}
use Rattle.rules.specs.declared.Due.{Due}
use Rattle.rules.specs.declared.Due.TheVariants.{Identifier, Keyword, Remarks, Remark, Record, End}
use Rattle.rules.specs.declared.Refusal.{Refusal}
use Rattle.rules.specs.Text.{Text}
use Rattle.rules.specs.Rules.{Rules}
use Rattle.rules.specs.Reading.{refusal, step}
use Rattle.rules.specs.Link.{Lent, is_short, worked_bytes}
use Rattle.fields.proofs.FieldLaws.{next}
use Rattle.reader.specs.Contact.{between}
use Rattle.judge.specs.Narrow.{low}
use Rattle.session.specs.declared.KeptLine.{KeptLine}
use Rattle.session.specs.Entry.{line_kept}
use Rattle.link.specs.declared.Link.{Link}
use Rattle.link.specs.Link.{Holding, holding, stopped_by, stopped, is_open, line_of, due_of, is_end, announced, begun, went_on, if_long, head_goes, head_next, head_line, with_record, record_told, record_line, lent_by, finishes, bytes_in, overrun}
use Rattle.link.specs.Piece.{run_end, is_ended, next_place, held_on}
use Rattle.link.proofs.ByteLaws.{bytes_refused, bytes_beyond}
use Rattle.link.proofs.PieceLaws.{Turn, turn_ended, turn_held, ends_there}

-- # Behind a finished line

-- Nothing is held of the next one, and there is one line more, if the state was not stopped.
pub record Fresh (s t : Link) : Type 0 where
  pub held : t.held ≡ 0
  pub long : length t.line ≡ 75
  pub lines : t.lines ≤ s.lines + 1

stopped_fresh : (s : Link) (r : Refusal) → Fresh s (stopped_by r)
unfolding stopped_by
stopped_fresh s r = record { held = refl; long = refl; lines = omega arith }

module _ (R : Rules) (s : Link) (l : Text) where
  went_fresh : (stage records done : ℕ) → Fresh s (went_on R s l stage records done)
  unfolding went_on
  went_fresh stage records done = record { held = refl; long = refl; lines = omega arith }

  long_fresh : (lent : Lent) (t : Link) → Fresh s t → Fresh s (if_long lent t)
  unfolding if_long
  long_fresh lent t f = by (is_short lent (announced t))
    where
      by : (b : Bool) → Fresh s (cond b (stopped_by (refusal 7 0 0)) t)
      by true = stopped_fresh s (refusal 7 0 0)
      by false = f

  goes_fresh : (lent : Lent) (next : Due) → Fresh s (head_goes R lent s l next)
  unfolding head_goes
  goes_fresh lent Identifier = went_fresh _ _ _
  goes_fresh lent (Keyword k) = went_fresh _ _ _
  goes_fresh lent Remarks = went_fresh _ _ _
  goes_fresh lent Remark = went_fresh _ _ _
  goes_fresh lent (Record n) = long_fresh lent (went_on R s l 39 (low n) 0) (went_fresh 39 (low n) 0)
  goes_fresh lent End = long_fresh lent (went_on R s l 39 0 0) (went_fresh 39 0 0)

  head_fresh : (lent : Lent) → Fresh s (head_line R lent s l)
  unfolding head_line
  head_fresh lent = by (step R (due_of s) l)
    where
      by : (next : Result Due Fault) → Fresh s (head_next R lent s l next)
      by (Ok due) = unfold head_next in goes_fresh lent due
      by (Err e) = unfold head_next in stopped_fresh s (refusal e.number (line_of s) e.field)

record_fresh : (s : Link) (told : Result KeptLine Fault) → Fresh s (record_told s told)
unfolding record_told
record_fresh s (Ok k) = unfold with_record in record { held = refl; long = refl; lines = omega arith }
record_fresh s (Err e) = stopped_fresh s (refusal e.number (line_of s) e.field)

finished_fresh : (R : Rules) (h : Holding) (l : Text) → Fresh h.link (finishes R h l).link
unfolding finishes record_line
finished_fresh R h l = by (ltb h.link.stage 39)
  where
    by : (b : Bool) → Fresh h.link (cond b (holding (head_line R (lent_by h) h.link l) h.verdicts h.worked) (record_line R h l)).link
    by true = head_fresh R h.link l (lent_by h)
    by false = record_fresh h.link (line_kept R l h.link.done worked_bytes h.verdicts h.worked)

-- # From line to line

-- What the bytes of the piece come to is what those from here on come to, from what is held here.
pub record Walks (R : Rules) (over : Bool) (t : Text) (from h : Holding) (at : ℕ) : Type 0 where
  pub unrefused : is_open h.link ≡ true
  pub few : h.link.held ≤ R.longest_line
  pub room : R.longest_line ≤ length h.link.line
  pub within : at ≤ length t
  pub lines : h.link.lines + (length t - at) ≤ R.longest_log
  pub goes : overrun over (bytes_in R from t) ≡ overrun over (bytes_in R h (drop at t))

module _ (R : Rules) (over : Bool) (t : Text) (from : Holding) where
  pub walks_from : is_open from.link ≡ true → from.link.held ≤ R.longest_line → R.longest_line ≤ length from.link.line → from.link.lines + length t ≤ R.longest_log → Walks R over t from from 0
  walks_from o f r l = record { unrefused = o; few = f; room = r; within = omega arith; lines = omega (arith, l); goes = refl }

  -- A refusal stays, whatever is behind it.
  over_refused : (h : Holding) → is_open h.link ≡ false → overrun over h ≡ h
  unfolding overrun
  over_refused h e = rw (e, and-false over)

  module _ (h : Holding) (at : ℕ) (w : Walks R over t from h at) where
    -- The piece ends here.
    rest_none : length t ≤ at → overrun over (bytes_in R from t) ≡ overrun over h
    unfolding bytes_in
    rest_none e = w.goes ∙ ap (λ (u : Text). overrun over (bytes_in R h u)) (drop_of_length-le t {i = at} e)

    pub walks_over : length t ≤ at → over ≡ true → holding (stopped_by (refusal 1 0 0)) h.verdicts h.worked ≡ overrun over (bytes_in R from t)
    walks_over e o = unfold overrun stopped in (rw (o, w.unrefused) refl) ∙ sym (rest_none e)

    pub walks_end : length t ≤ at → over ≡ false → h ≡ overrun over (bytes_in R from t)
    walks_end e o = unfold overrun in (rw o refl) ∙ sym (rest_none e)

    module _ (inside : at < length t) where
      -- Nothing more is due.
      pub walks_beyond : is_end (due_of h.link) ≡ true → holding (stopped_by (refusal 6 (line_of h.link) 0)) h.verdicts h.worked ≡ overrun over (bytes_in R from t)
      unfolding stopped
      walks_beyond e =
          let six = stopped h (refusal 6 (line_of h.link) 0) in
          sym (w.goes ∙ ap (λ (u : Text). overrun over (bytes_in R h u)) (next t at inside) ∙ ap (overrun over) (bytes_beyond R h _ (drop (at + 1) t) w.unrefused e) ∙ over_refused six (unfold stopped_by in refl))

      module _ (line : is_end (due_of h.link) ≡ false) (end : ℕ) (is : end ≡ run_end h.link.returned t at) where
        turn : Turn R h.link t at
        turn = record { unrefused = w.unrefused; line = line; room = w.room; few = w.few; inside = inside }

        -- What is left is held, or it is refused.
        pub walks_held : is_ended R h.link.held h.link.returned t at end ≡ false → holding (held_on R h.link t at end over) h.verdicts h.worked ≡ overrun over (bytes_in R from t)
        walks_held e = sym (w.goes ∙ turn_held R h.verdicts h.worked h.link t at turn over end is e)

        -- A line is finished.
        module _ (e : is_ended R h.link.held h.link.returned t at end ≡ true) (g : Holding) (so : g ≡ finishes R h (begun h.link ++ between t at end)) where
          goes_on_lem : overrun over (bytes_in R from t) ≡ overrun over (bytes_in R g (drop (next_place h.link.returned end) t))
          goes_on_lem =
              w.goes
              ∙ ap (overrun over) (turn_ended R h.verdicts h.worked h.link t at turn end is e)
              ∙ ap (λ (k : Holding). overrun over (bytes_in R k (drop (next_place h.link.returned end) t))) (sym so)

          pub walks_refused : is_open g.link ≡ false → g ≡ overrun over (bytes_in R from t)
          walks_refused c =
              sym (goes_on_lem ∙ ap (overrun over) (bytes_refused R g (drop (next_place h.link.returned end) t) c) ∙ over_refused g c)

          pub walks_on : (place : ℕ) → place ≡ next_place h.link.returned end → is_open g.link ≡ true → R.longest_line ≤ 75 → Walks R over t from g place
          walks_on place p o small =
              let f : Fresh h.link g.link = subst (λ (k : Holding). Fresh h.link k.link) (sym so) (finished_fresh R h (begun h.link ++ between t at end)) in
              let k = ends_there R h.link t at end w.few inside is e in
              record {
                unrefused = o;
                few = omega (arith, f.held);
                room = omega (arith, f.long, small);
                within = omega (arith, p, k.inside);
                lines = omega (arith, f.lines, w.lines, p, k.inside, k.forth);
                goes = goes_on_lem ∙ ap (λ (n : ℕ). overrun over (bytes_in R g (drop n t))) (sym p);
              }
