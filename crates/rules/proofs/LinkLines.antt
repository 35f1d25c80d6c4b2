-- The link reads as the reader does: what a text is read as, of which some bytes came, follows from the state behind them and the bytes to come.
-- Assumes nothing.
use Prim.Native.Nat.{ℕ, zero, suc, ◌+◌, ◌-◌, ◌≤◌}
use native.Mathlib.Omega.{arith}
use mathlib.Core.Path.{◌≡◌, refl, sym, ap, ◌∙◌}
use mathlib.Core.Bool.{Bool, true, false, cond, ◌&&◌, and-false}
use mathlib.Core.List.{List, [], ◌∷◌, ◌++◌, append_assoc, append-nil}
use lib.Dec.{leb, eqb}
use lib.ListN.{length, drop}
use lib.Seq.{drop-append-add}
use borrow.Author.Tests.{lt-leb}
use Rattle.std.specs.Prelude.{Result, Ok, Err}
use Rattle.rules.specs.declared.Fault.{Fault}
use Rattle.rules.specs.declared.Refusal.{Refusal}
use Rattle.rules.specs.declared.Due.{Due}
use Rattle.rules.specs.declared.Due.TheVariants.{Record, End}
use Rattle.rules.specs.Text.{Text, allowed, all, span, begins}
use Rattle.rules.specs.Rules.{Rules}
use Rattle.rules.specs.Log.{crlf, line_rule}
use Rattle.rules.specs.Reading.{Lines, FirstLine, a_line, no_line, first_line, on_first_line, lines, RecordRule, keeps, breaks, record_rule, records_due, after_record, step, Reading, refused, refusal, at_rest, put, on_next, walk, fault}
use Rattle.rules.specs.Link.{Finished, Link, line_of, rest_of, announced_by, goes_on, holding}
use Rattle.rules.specs.LinkDemands.{announced_on, announced_with}
use Rattle.rules.proofs.Tests.{and_l, and_r}
use Rattle.rules.proofs.LineLaws.{first_front, lines_law}

-- # Which bytes are the front of a line

-- A run of characters that pass a test goes on behind those that do.
span_on : (f : ℕ → Bool) (l u : Text) → all f l ≡ true → span f (l ++ u) ≡ length l + span f u
unfolding span all
span_on f [] u e = omega arith
span_on f (c ∷ l) u e = rw (and_l (f c) (all f l) e) (omega (arith, span_on f l u (and_r (f c) (all f l) e)))

module _ (R : Rules) where
  -- What stands behind allowed characters decides whether a line is found.
  first_behind : (l u : Text) → all allowed l ≡ true → (leb (length l + span allowed u) R.longest_line && begins crlf (drop (span allowed u) u)) ≡ false → first_line R (l ++ u) ≡ no_line
  unfolding first_line
  first_behind l u e f =
      let n = span_on allowed l u e in
      rw (n, drop-append-add l u (span allowed u), f)

  -- Nothing yet, or the CR alone.
  pub first_of_begun : (l : Text) (returned : Bool) → all allowed l ≡ true → first_line R (l ++ cond returned (13 ∷ []) []) ≡ no_line
  unfolding span begins crlf
  first_of_begun l true e = first_behind l (13 ∷ []) e (and-false (leb (length l + 0) R.longest_line))
  first_of_begun l false e = first_behind l [] e (and-false (leb (length l + 0) R.longest_line))

  -- A CR with no LF behind it.
  first_of_return : (l : Text) (b : ℕ) (t : Text) → all allowed l ≡ true → eqb 10 b ≡ false → first_line R (l ++ 13 ∷ b ∷ t) ≡ no_line
  unfolding span begins crlf
  first_of_return l b t e f = first_behind l (13 ∷ b ∷ t) e (rw f (and-false (leb (length l + 0) R.longest_line)))

  -- A byte that no line has.
  first_of_stray : (l : Text) (b : ℕ) (t : Text) → all allowed l ≡ true → allowed b ≡ false → eqb 13 b ≡ false → first_line R (l ++ b ∷ t) ≡ no_line
  unfolding span begins crlf
  first_of_stray l b t e a f = first_behind l (b ∷ t) e (rw (a, f) (and-false (leb (length l + 0) R.longest_line)))

  -- A character too many.
  first_of_long : (l : Text) (b : ℕ) (t : Text) → all allowed l ≡ true → allowed b ≡ true → R.longest_line ≤ length l → first_line R (l ++ b ∷ t) ≡ no_line
  unfolding span
  first_of_long l b t e a h =
      first_behind l (b ∷ t) e (rw (a, lt-leb (length l + suc (span allowed t)) R.longest_line (omega arith)))

-- # A text read on

-- What is left of a text, read from a line on where this is due.
unfoldable pub read_on : Rules → Due → ℕ → Text → Reading
unfolding walk lines
read_on R due n s = walk R due n (lines R s).whole (lines R s).rest

module _ (R : Rules) (due : Due) (n : ℕ) (s : Text) where
  on_lines : (f : FirstLine) → first_line R s ≡ f → read_on R due n s ≡ walk R due n (on_first_line (lines R) s f).whole (on_first_line (lines R) s f).rest
  unfolding read_on
  on_lines f e =
      let same = lines_law R s ∙ ap (on_first_line (lines R) s) e in
      (λ i. walk R due n (same i).whole (same i).rest)

  pub on_none : first_line R s ≡ no_line → read_on R due n s ≡ at_rest due n s
  unfolding on_first_line walk
  on_none e = on_lines no_line e

  pub on_line : (l rest : Text) → first_line R s ≡ a_line l rest → read_on R due n s ≡ on_next (λ next. read_on R next (n + 1) rest) n due l (step R due l)
  unfolding on_first_line walk read_on
  on_line l rest e = on_lines (a_line l rest) e

-- The lines that were taken put in front of what is read behind them, the last one first.
unfoldable pub put_all : List Finished → Reading → Reading
unfolding put
put_all [] r = r
put_all (f ∷ before) r = put_all before (put f.due f.line r)

pub put_refused : (fs : List Finished) (r : Refusal) → put_all fs (refused r) ≡ refused r
unfolding put_all put
put_refused [] r = refl
put_refused (f ∷ fs) r = put_refused fs r

-- What the bytes that came and those that come are read as.
unfoldable pub read_from : Rules → Link → Text → Reading
unfolding put_all read_on
read_from R k t = put_all k.finished (read_on R k.due (line_of k) (rest_of k ++ t))

-- The records that they announce.
unfoldable pub announced_from : Rules → Link → Text → ℕ
unfolding announced_with lines
announced_from R k t = announced_with R k.due k.announced (lines R (rest_of k ++ t)).whole

-- Where this is due a line has to come.
abbrev pub IsLine : Due → Type 0
IsLine due = (n c : ℕ) (s : Text) → at_rest due n (c ∷ s) ≡ refused (refusal 2 n 0)

-- The unfinished line of the state is the front of some line.
abbrev pub IsFront : Rules → Link → Type 0
IsFront R k = line_rule R k.begun ≡ true

module _ (R : Rules) (k : Link) where
  rest_returned : (t : Text) → k.returned ≡ true → rest_of k ++ t ≡ k.begun ++ 13 ∷ t
  rest_returned t e = rw e (append_assoc k.begun (13 ∷ []) t)

  rest_plain : (t : Text) → k.returned ≡ false → rest_of k ++ t ≡ k.begun ++ t
  rest_plain t e = rw (e, append-nil k.begun)

  begun_allowed : IsFront R k → all allowed k.begun ≡ true
  unfolding line_rule
  begun_allowed f = and_r (leb (length k.begun) R.longest_line) (all allowed k.begun) f

  -- # No line can come

  some_byte : (due : Due) (n : ℕ) (u : Text) (b : ℕ) (t : Text) → IsLine due → at_rest due n (u ++ b ∷ t) ≡ refused (refusal 2 n 0)
  some_byte due n [] b t d = d n b t
  some_byte due n (c ∷ u) b t d = d n c (u ++ b ∷ t)

  -- It is 2, whatever comes, and no count line is read any more.
  pub from_none : (b : ℕ) (t : Text) → first_line R (rest_of k ++ b ∷ t) ≡ no_line → IsLine k.due → read_from R k (b ∷ t) ≡ refused (refusal 2 (line_of k) 0)
  unfolding read_from
  from_none b t e d =
      ap (put_all k.finished) (on_none R k.due (line_of k) (rest_of k ++ b ∷ t) e ∙ some_byte k.due (line_of k) (rest_of k) b t d)
      ∙ put_refused k.finished (refusal 2 (line_of k) 0)

  pub announced_none : (t : Text) → first_line R (rest_of k ++ t) ≡ no_line → announced_from R k t ≡ k.announced
  unfolding announced_from announced_with on_first_line
  announced_none t e =
      ap (λ (ls : Lines). announced_with R k.due k.announced ls.whole) (lines_law R (rest_of k ++ t) ∙ ap (on_first_line (lines R) (rest_of k ++ t)) e)

  -- The end of the bytes.
  pub from_end : IsFront R k → read_from R k [] ≡ put_all k.finished (at_rest k.due (line_of k) (rest_of k))
  unfolding read_from
  from_end front =
      ap (λ (s : Text). put_all k.finished (read_on R k.due (line_of k) s)) (append-nil (rest_of k))
      ∙ ap (put_all k.finished) (on_none R k.due (line_of k) (rest_of k) (first_of_begun R k.begun k.returned (begun_allowed front)))

  pub announced_end : IsFront R k → announced_from R k [] ≡ k.announced
  announced_end front =
      announced_none [] (ap (first_line R) (append-nil (rest_of k)) ∙ first_of_begun R k.begun k.returned (begun_allowed front))

  -- # The LF

  module _ (t : Text) (found : first_line R (rest_of k ++ 10 ∷ t) ≡ a_line k.begun t) where
    finished_by : (m : Result Due Fault) → step R k.due k.begun ≡ m → read_from R k (10 ∷ t) ≡ put_all k.finished (on_next (λ next. read_on R next (line_of k + 1) t) (line_of k) k.due k.begun m)
    unfolding read_from
    finished_by m g =
        ap (put_all k.finished) (on_line R k.due (line_of k) (rest_of k ++ 10 ∷ t) k.begun t found
        ∙ ap (on_next (λ next. read_on R next (line_of k + 1) t) (line_of k) k.due k.begun) g)

    announced_by_lem : (m : Result Due Fault) → step R k.due k.begun ≡ m → announced_from R k (10 ∷ t) ≡ announced_on (λ next. announced_with R next (announced_by k.due next k.announced) (lines R t).whole) k.announced m
    unfolding announced_from announced_with on_first_line
    announced_by_lem m g =
        ap (λ (ls : Lines). announced_with R k.due k.announced ls.whole) (lines_law R (rest_of k ++ 10 ∷ t) ∙ ap (on_first_line (lines R) (rest_of k ++ 10 ∷ t)) found)
        ∙ ap (announced_on (λ next. announced_with R next (announced_by k.due next k.announced) (lines R t).whole) k.announced) g

    -- The line is taken.
    pub from_taken : (next : Due) → step R k.due k.begun ≡ Ok next → read_from R k (10 ∷ t) ≡ read_from R (goes_on k k.begun next) t
    unfolding on_next read_from put_all goes_on
    from_taken next g =
        let count : line_of k + 1 ≡ suc (length k.finished) + 1 = omega arith in
        finished_by (Ok next) g
        ∙ ap (λ (n : ℕ). put_all k.finished (put k.due k.begun (read_on R next n t))) count

    pub announced_taken : (next : Due) → step R k.due k.begun ≡ Ok next → announced_from R k (10 ∷ t) ≡ announced_from R (goes_on k k.begun next) t
    unfolding announced_on announced_from goes_on
    announced_taken next g = announced_by_lem (Ok next) g

    -- It is refused.
    pub from_refused : (number field : ℕ) → step R k.due k.begun ≡ Err (fault number field) → read_from R k (10 ∷ t) ≡ refused (refusal number (line_of k) field)
    unfolding on_next
    from_refused number field g =
        finished_by (Err (fault number field)) g ∙ put_refused k.finished (refusal number (line_of k) field)

    pub announced_refused : (number field : ℕ) → step R k.due k.begun ≡ Err (fault number field) → announced_from R k (10 ∷ t) ≡ k.announced
    unfolding announced_on
    announced_refused number field g = announced_by_lem (Err (fault number field)) g

  -- # Byte by byte

  module _ (front : IsFront R k) where
    -- LF behind the CR: a line is found. Another byte there: none.
    pub found_line : (t : Text) → k.returned ≡ true → first_line R (rest_of k ++ 10 ∷ t) ≡ a_line k.begun t
    unfolding crlf
    found_line t e =
        ap (first_line R) (rest_returned (10 ∷ t) e ∙ sym (append_assoc k.begun crlf t)) ∙ first_front R k.begun t front

    pub no_feed : (b : ℕ) (t : Text) → k.returned ≡ true → eqb 10 b ≡ false → first_line R (rest_of k ++ b ∷ t) ≡ no_line
    no_feed b t e f =
        ap (first_line R) (rest_returned (b ∷ t) e) ∙ first_of_return R k.begun b t (begun_allowed front) f

    -- A byte that no line has there, or a character too many.
    pub no_such_byte : (b : ℕ) (t : Text) → k.returned ≡ false → allowed b ≡ false → eqb 13 b ≡ false → first_line R (rest_of k ++ b ∷ t) ≡ no_line
    no_such_byte b t e a f =
        ap (first_line R) (rest_plain (b ∷ t) e) ∙ first_of_stray R k.begun b t (begun_allowed front) a f

    pub one_too_many : (b : ℕ) (t : Text) → k.returned ≡ false → allowed b ≡ true → R.longest_line ≤ length k.begun → first_line R (rest_of k ++ b ∷ t) ≡ no_line
    one_too_many b t e a h =
        ap (first_line R) (rest_plain (b ∷ t) e) ∙ first_of_long R k.begun b t (begun_allowed front) a h

  -- The CR, or one character more: the bytes are the same, only that one of them came.
  pub rest_return : (t : Text) → k.returned ≡ false → rest_of k ++ 13 ∷ t ≡ rest_of (holding k k.begun true) ++ t
  unfolding holding
  rest_return t e = rest_plain (13 ∷ t) e ∙ sym (append_assoc k.begun (13 ∷ []) t)

  pub rest_character : (b : ℕ) (t : Text) → k.returned ≡ false → rest_of k ++ b ∷ t ≡ rest_of (holding k (k.begun ++ (b ∷ [])) false) ++ t
  unfolding holding
  rest_character b t e =
      rest_plain (b ∷ t) e
      ∙ sym (append_assoc k.begun (b ∷ []) t)
      ∙ ap (λ (s : Text). s ++ t) (sym (append-nil (k.begun ++ (b ∷ []))))

  module _ (begun : Text) (returned : Bool) (s t : Text) (e : rest_of k ++ s ≡ rest_of (holding k begun returned) ++ t) where
    pub from_held : read_from R k s ≡ read_from R (holding k begun returned) t
    unfolding read_from holding
    from_held = ap (λ (u : Text). put_all k.finished (read_on R k.due (line_of k) u)) e

    pub announced_held : announced_from R k s ≡ announced_from R (holding k begun returned) t
    unfolding announced_from holding
    announced_held = ap (λ (u : Text). announced_with R k.due k.announced (lines R u).whole) e

  -- # Behind the last record

  module _ (d : k.due ≡ End) where
    beyond : (u : Text) (b : ℕ) (t : Text) → read_on R End (line_of k) (u ++ b ∷ t) ≡ refused (refusal 6 (line_of k) 0)
    unfolding at_rest
    beyond u b t = by (first_line R (u ++ b ∷ t)) refl
      where
        at_rest_lem : (u : Text) → at_rest End (line_of k) (u ++ b ∷ t) ≡ refused (refusal 6 (line_of k) 0)
        at_rest_lem [] = refl
        at_rest_lem (c ∷ u) = refl

        by : (f : FirstLine) → first_line R (u ++ b ∷ t) ≡ f → read_on R End (line_of k) (u ++ b ∷ t) ≡ refused (refusal 6 (line_of k) 0)
        by no_line e = on_none R End (line_of k) (u ++ b ∷ t) e ∙ at_rest_lem u
        by (a_line l rest) e = on_line R End (line_of k) (u ++ b ∷ t) l rest e ∙ unfold step on_next in refl

    pub from_beyond : (b : ℕ) (t : Text) → read_from R k (b ∷ t) ≡ refused (refusal 6 (line_of k) 0)
    unfolding read_from
    from_beyond b t =
        ap (λ (due : Due). put_all k.finished (read_on R due (line_of k) (rest_of k ++ b ∷ t))) d
        ∙ ap (put_all k.finished) (beyond (rest_of k) b t)
        ∙ put_refused k.finished (refusal 6 (line_of k) 0)

-- Behind the count line nothing more is announced.
module _ (R : Rules) where
  pub announced_late : (m n : ℕ) (ls : List Text) → announced_with R (records_due m) n ls ≡ n
  unfolding announced_with announced_on announced_by records_due step
  announced_late m n [] = refl
  announced_late zero n (l ∷ ls) = refl
  announced_late (suc m) n (l ∷ ls) = by (announced_late (suc m - 1) n ls) (record_rule R l)
    where
      by : announced_with R (records_due (suc m - 1)) n ls ≡ n → (r : RecordRule) → announced_on (λ next. announced_with R next (announced_by (Record (suc m)) next n) ls) n (after_record (suc m) r) ≡ n
      by more keeps = more
      by more (breaks field) = refl
