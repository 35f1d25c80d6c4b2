-- A turn of the code: a run of characters up to the end of a line or of the piece, and what its bytes come to one by one.
-- Assumes nothing.
use Prim.Native.Nat.{ℕ, suc, ◌+◌, ◌-◌, ◌≤◌, ◌<◌}
use native.Mathlib.Omega.{arith}
use mathlib.Core.Path.{◌≡◌, refl, sym, ap, ◌∙◌}
use mathlib.Core.Bool.{Bool, true, false, cond, ◌&&◌, and-true}
use mathlib.Core.List.{List, [], ◌∷◌, ◌++◌, append-nil}
use lib.Dec.{eqb, leb}
use lib.ListN.{length, take, drop, get_or, length-drop, take-append-drop, drop_of_length-le}
use lib.Seq.{drop-drop, length-take-le, get_or-drop}
use borrow.Author.Tests.{leb-true, leb-false, eqb-true, eqb-false, eq-eqb, ne_eqb}
use Rattle.rules.specs.Text.{Text, allowed, all, span, begins}
use Rattle.rules.specs.Rules.{Rules}
use Rattle.rules.specs.Log.{crlf}
use Rattle.rules.specs.Reading.{refusal}
use Rattle.rules.proofs.Tests.{and_l, and_r, never, clash}
use Rattle.rules.proofs.TextLaws.{span_short, span_all, begins_split}
use Rattle.fields.proofs.FieldLaws.{next}
use Rattle.reader.specs.Contact.{between}
use Rattle.writer.specs.Written.{written}
use Rattle.link.specs.declared.Link.{Link}
use Rattle.link.specs.Link.{Holding, holding, stopped, stopped_by, is_open, line_of, due_of, is_end, begun, has_return, finishes, held_as, with_text, with_return, no_line_here, bytes_in, overrun}
use Rattle.link.specs.Piece.{run_end, is_ended, next_place, may_come, held_on}
use Rattle.link.proofs.ByteLaws.{Coming, Buffered, bytes_feed, bytes_no_feed, bytes_too_long, piece_held, piece_returned, piece_line, piece_stray, piece_no_feed}

-- The character behind a run is none of them.
run_left : (f : ℕ → Bool) (u : Text) → span f u < length u → f (get_or u (span f u) 0) ≡ false
unfolding span
run_left f [] h = absurd (omega arith)
run_left f (d ∷ u) h = by (λ g. run_left f u g) (f d) refl
  where
    by : (span f u < length u → f (get_or u (span f u) 0) ≡ false) → (b : Bool) → f d ≡ b → f (get_or (d ∷ u) (cond (f d) (suc (span f u)) 0) 0) ≡ false
    by more true e = let g : suc (span f u) < suc (length u) = rw e at h in rw e (more (omega arith))
    by more false e = ap f (ap (λ (b : Bool). get_or (d ∷ u) (cond b (suc (span f u)) 0) 0) e) ∙ e

-- Characters that are held, and the CR behind them.
text_held : (s : Link) (u : Text) → with_text u s ≡ held_as (s.held + length u) s.returned (written s.line s.held u) s
unfolding with_text
text_held s u = refl

return_held : (s : Link) (u : Text) → with_return (with_text u s) ≡ held_as (s.held + length u) 1 (written s.line s.held u) s
unfolding with_return with_text
return_held s u = refl

-- What a turn begins with: a line is coming, some of whose characters are held, and there is a byte.
pub record Turn (R : Rules) (s : Link) (t : Text) (at : ℕ) : Type 0 where
  pub unrefused : is_open s ≡ true
  pub line : is_end (due_of s) ≡ false
  pub room : R.longest_line ≤ length s.line
  pub few : s.held ≤ R.longest_line
  pub inside : at < length t

module _ (R : Rules) (verdicts worked : List ℕ) (s : Link) (t : Text) (at : ℕ) (turn : Turn R s t at) where
  abbrev h : Holding
  h = holding s verdicts worked

  coming : Coming R h
  coming = record { unrefused = turn.unrefused; line = turn.line }

  -- What no line can have there is refused, whatever is behind it.
  refused_here : (over : Bool) → overrun over (no_line_here h) ≡ holding (stopped_by (refusal 2 (line_of s) 0)) verdicts worked
  unfolding overrun no_line_here stopped stopped_by
  refused_here true = refl
  refused_here false = refl

  refused_as : (over : Bool) (end : ℕ) → (eqb s.returned 0 && may_come R s.held t at end) ≡ false → held_on R s t at end over ≡ stopped_by (refusal 2 (line_of s) 0)
  unfolding held_on
  refused_as over end e = rw e

  -- What is held is refused where a byte too many is behind it.
  held_here : (over : Bool) (j : Link) → is_open j ≡ true → overrun over (holding j verdicts worked) ≡ holding (cond over (stopped_by (refusal 1 0 0)) j) verdicts worked
  unfolding overrun stopped
  held_here true j e = rw e
  held_here false j e = refl

  held_as_lem : (over : Bool) (end : ℕ) → (eqb s.returned 0 && may_come R s.held t at end) ≡ true → held_on R s t at end over ≡ cond over (stopped_by (refusal 1 0 0)) (held_as (s.held + (end - at)) (cond (eqb end (length t)) 0 1) (written s.line s.held (between t at end)) s)
  unfolding held_on
  held_as_lem over end e = rw e

  -- # No CR is held

  module _ (plain : eqb s.returned 0 ≡ true) where
    abbrev u : Text
    u = drop at t

    abbrev n : ℕ
    n = span allowed u

    abbrev front : Text
    front = take n u

    abbrev end : ℕ
    end = at + n

    buffered : Buffered R h
    buffered = record { coming = coming; plain = rw plain; room = turn.room }

    front_long : length front ≡ n
    front_long = length-take-le n u (span_short allowed u)

    good : all allowed front ≡ true
    good = span_all allowed u

    rest : drop n u ≡ drop end t
    rest = drop-drop n at t

    split : (v : Text) → drop end t ≡ v → u ≡ front ++ v
    split v e = sym (take-append-drop n u) ∙ ap (λ (r : Text). front ++ r) (rest ∙ e)

    text_between : between t at end ≡ front
    text_between = let long : end - at ≡ n = omega arith in ap (λ (k : ℕ). take k u) long

    -- The line ends.
    plain_ended : is_ended R s.held s.returned t at end ≡ true → bytes_in R h u ≡ bytes_in R (finishes R h (begun s ++ between t at end)) (drop (end + 2) t)
    unfolding is_ended crlf
    plain_ended e =
        let tests : (leb (s.held + (end - at)) R.longest_line && begins crlf (drop end t)) ≡ true = rw plain at e in
        let short = leb-true (s.held + (end - at)) R.longest_line (and_l (leb (s.held + (end - at)) R.longest_line) (begins crlf (drop end t)) tests) in
        let found : drop end t ≡ 13 ∷ 10 ∷ drop (end + 2) t =
        begins_split crlf (drop end t) (and_r (leb (s.held + (end - at)) R.longest_line) (begins crlf (drop end t)) tests)
        ∙ ap (λ (r : Text). 13 ∷ 10 ∷ r) (drop-drop 2 end t) in
        ap (bytes_in R h) (split (13 ∷ 10 ∷ drop (end + 2) t) found)
        ∙ piece_line R h front (drop (end + 2) t) buffered good (omega (arith, front_long, short))
        ∙ ap (λ (l : Text). bytes_in R (finishes R h (begun s ++ l)) (drop (end + 2) t)) (sym text_between)

    -- It does not.
    plain_held : (over : Bool) → is_ended R s.held s.returned t at end ≡ false → overrun over (bytes_in R h u) ≡ holding (held_on R s t at end over) verdicts worked
    unfolding is_ended begins crlf
    plain_held over e = fits (leb (s.held + (end - at)) R.longest_line) refl
      where
        long : end - at ≡ n
        long = omega arith

        -- What is refused, and what is held.
        no : may_come R s.held t at end ≡ false → bytes_in R h u ≡ no_line_here h → overrun over (bytes_in R h u) ≡ holding (held_on R s t at end over) verdicts worked
        no m b =
            ap (overrun over) b
            ∙ refused_here over
            ∙ ap (λ (j : Link). holding j verdicts worked) (sym (refused_as over end (rw (plain, m))))

        yes : (j : Link) → is_open j ≡ true → may_come R s.held t at end ≡ true → bytes_in R h u ≡ holding j verdicts worked → j ≡ held_as (s.held + (end - at)) (cond (eqb end (length t)) 0 1) (written s.line s.held (between t at end)) s → overrun over (bytes_in R h u) ≡ holding (held_on R s t at end over) verdicts worked
        yes j o m b g =
            ap (overrun over) b
            ∙ held_here over j o
            ∙ ap (λ (j : Link). holding (cond over (stopped_by (refusal 1 0 0)) j) verdicts worked) g
            ∙ ap (λ (j : Link). holding j verdicts worked) (sym (held_as_lem over end (rw (plain, m))))

        returned_none : s.returned ≡ 0
        returned_none = eqb-true s.returned 0 plain

        held_so : (returned : ℕ) → held_as (s.held + length front) returned (written s.line s.held front) s ≡ held_as (s.held + (end - at)) returned (written s.line s.held (between t at end)) s
        held_so returned = λ i. held_as (s.held + (front_long ∙ sym long) i) returned (written s.line s.held (sym text_between i)) s

        -- There is a byte behind the characters, which is none.
        inside : eqb end (length t) ≡ false → end < length t
        inside g =
            let other = eqb-false end (length t) g in
            let short = span_short allowed u in
            let rest-long = length-drop at t in
            omega (arith, turn.inside, short, rest-long, other)

        byte_behind : eqb end (length t) ≡ false → drop end t ≡ get_or t end 0 ∷ drop (end + 1) t
        byte_behind g = next t end (inside g)

        not_allowed : eqb end (length t) ≡ false → allowed (get_or t end 0) ≡ false
        not_allowed g =
            ap allowed (sym (get_or-drop at t n 0)) ∙ run_left allowed u (omega (arith, inside g, length-drop at t))

        -- Behind a CR that ends no line there is no LF.
        no_feed_behind : leb (s.held + (end - at)) R.longest_line ≡ true → (d : ℕ) (v : Text) → drop end t ≡ 13 ∷ d ∷ v → eqb d 10 ≡ false
        no_feed_behind l d v r =
            let none : begins crlf (drop end t) ≡ false = rw (plain, l) at e in
            let test : (eqb 10 d && true) ≡ false = ap (begins crlf) (sym r) ∙ none in
            ne_eqb d 10 (λ k. clash (eq-eqb 10 d (sym k)) (sym (and-true (eqb 10 d)) ∙ test))

        -- A CR, at the end of the piece or with a byte behind it, or another byte.
        last : s.held + length front ≤ R.longest_line → leb (s.held + (end - at)) R.longest_line ≡ true → eqb end (length t) ≡ false → eqb (get_or t end 0) 13 ≡ true → (b : Bool) → eqb (end + 1) (length t) ≡ b → overrun over (bytes_in R h u) ≡ holding (held_on R s t at end over) verdicts worked
        last f l g c true k =
            let at_end_lem : drop (end + 1) t ≡ [] = drop_of_length-le t {i = end + 1} (omega (arith, eqb-true (end + 1) (length t) k)) in
            let return : drop end t ≡ 13 ∷ [] = byte_behind g ∙ (λ i. eqb-true (get_or t end 0) 13 c i ∷ at_end_lem i) in
            yes (with_return (with_text front s)) (unfold with_return with_text in turn.unrefused) (unfold may_come in rw (l, g, c, k))
            (ap (bytes_in R h) (split (13 ∷ []) return) ∙ piece_returned R h front [] buffered good f)
            (return_held s front ∙ held_so 1 ∙ (λ i. held_as (s.held + (end - at)) (cond (sym g i) 0 1) (written s.line s.held (between t at end)) s))
        last f l g c false k =
            let d = get_or t (end + 1) 0 in
            let more : end + 1 < length t = let other = eqb-false (end + 1) (length t) k in omega (arith, inside g, other) in
            let return : drop end t ≡ 13 ∷ d ∷ drop (end + 1 + 1) t = byte_behind g ∙ (λ i. eqb-true (get_or t end 0) 13 c i ∷ next t (end + 1) more i) in
            no (unfold may_come in rw (l, g, c, k))
            (ap (bytes_in R h) (split (13 ∷ d ∷ drop (end + 1 + 1) t) return) ∙ piece_no_feed R h front (drop (end + 1 + 1) t) buffered good f d (no_feed_behind l d (drop (end + 1 + 1) t) return))

        some : s.held + length front ≤ R.longest_line → leb (s.held + (end - at)) R.longest_line ≡ true → eqb end (length t) ≡ false → (b : Bool) → eqb (get_or t end 0) 13 ≡ b → overrun over (bytes_in R h u) ≡ holding (held_on R s t at end over) verdicts worked
        some f l g true c = last f l g c (eqb (end + 1) (length t)) refl
        some f l g false c =
            no (unfold may_come in rw (l, g, c))
            (ap (bytes_in R h) (split (get_or t end 0 ∷ drop (end + 1) t) (byte_behind g)) ∙ piece_stray R h front (drop (end + 1) t) buffered good f (get_or t end 0) (not_allowed g) c)

        -- Behind the characters: nothing, a CR, or something else.
        behind : s.held + length front ≤ R.longest_line → leb (s.held + (end - at)) R.longest_line ≡ true → (b : Bool) → eqb end (length t) ≡ b → overrun over (bytes_in R h u) ≡ holding (held_on R s t at end over) verdicts worked
        behind f l true g =
            let at_end_lem : drop end t ≡ [] = drop_of_length-le t {i = end} (omega (arith, eqb-true end (length t) g)) in
            yes (with_text front s) (unfold with_text in turn.unrefused) (unfold may_come in rw (l, g))
            (ap (bytes_in R h) (split [] at_end_lem) ∙ piece_held R h front [] buffered good f)
            (text_held s front ∙ (λ i. held_as (s.held + length front) (returned_none i) (written s.line s.held front) s) ∙ held_so 0 ∙ (λ i. held_as (s.held + (end - at)) (cond (sym g i) 0 1) (written s.line s.held (between t at end)) s))
        behind f l false g = some f l g (eqb (get_or t end 0) 13) refl

        fits : (b : Bool) → leb (s.held + (end - at)) R.longest_line ≡ b → overrun over (bytes_in R h u) ≡ holding (held_on R s t at end over) verdicts worked
        fits true l = behind (omega (arith, front_long, leb-true (s.held + (end - at)) R.longest_line l)) l (eqb end (length t)) refl
        fits false l =
            no (unfold may_come in rw l)
            (ap (bytes_in R h) (split (drop end t) refl) ∙ bytes_too_long R front h (drop end t) buffered good (omega (arith, front_long, leb-false (s.held + (end - at)) R.longest_line l)) turn.few)

  -- # A CR is held

  module _ (returned : eqb s.returned 0 ≡ false) where
    byte_there : drop at t ≡ get_or t at 0 ∷ drop (at + 1) t
    byte_there = next t at turn.inside

    held_return : has_return s ≡ true
    held_return = rw returned

    nothing_between : between t at at ≡ []
    nothing_between = let none : at - at ≡ 0 = omega arith in ap (λ (k : ℕ). take k (drop at t)) none

    returned_ended : is_ended R s.held s.returned t at at ≡ true → bytes_in R h (drop at t) ≡ bytes_in R (finishes R h (begun s ++ between t at at)) (drop (at + 1) t)
    unfolding is_ended
    returned_ended e =
        let feed : eqb (get_or t at 0) 10 ≡ true = rw returned at e in
        ap (bytes_in R h) (byte_there ∙ ap (λ (c : ℕ). c ∷ drop (at + 1) t) (eqb-true (get_or t at 0) 10 feed))
        ∙ bytes_feed R h (drop (at + 1) t) coming held_return
        ∙ ap (λ (l : Text). bytes_in R (finishes R h l) (drop (at + 1) t)) (sym (append-nil (begun s)) ∙ ap (λ (r : Text). begun s ++ r) (sym nothing_between))

    returned_held : (over : Bool) → is_ended R s.held s.returned t at at ≡ false → overrun over (bytes_in R h (drop at t)) ≡ holding (held_on R s t at at over) verdicts worked
    unfolding is_ended
    returned_held over e =
        let other : eqb (get_or t at 0) 10 ≡ false = rw returned at e in
        ap (λ (l : Text). overrun over (bytes_in R h l)) byte_there
        ∙ ap (overrun over) (bytes_no_feed R h (get_or t at 0) (drop (at + 1) t) coming held_return other)
        ∙ refused_here over
        ∙ ap (λ (j : Link). holding j verdicts worked) (sym (refused_as over at (rw returned)))

  -- # Both ways

  -- The line ends: it is finished, and the next one comes.
  pub turn_ended : (end : ℕ) → end ≡ run_end s.returned t at → is_ended R s.held s.returned t at end ≡ true → bytes_in R h (drop at t) ≡ bytes_in R (finishes R h (begun s ++ between t at end)) (drop (next_place s.returned end) t)
  unfolding run_end next_place
  turn_ended end is e = by (eqb s.returned 0) refl
    where
      to : (place : ℕ) → end ≡ place → is_ended R s.held s.returned t at place ≡ true
      to place g = ap (is_ended R s.held s.returned t at) (sym g) ∙ e

      by : (b : Bool) → eqb s.returned 0 ≡ b → bytes_in R h (drop at t) ≡ bytes_in R (finishes R h (begun s ++ between t at end)) (drop (end + cond (eqb s.returned 0) 2 1) t)
      by true p =
          let place : end ≡ at + span allowed (drop at t) = is ∙ rw p in
          plain_ended p (to (at + span allowed (drop at t)) place)
          ∙ (λ i. bytes_in R (finishes R h (begun s ++ between t at (sym place i))) (drop (sym place i + cond (sym p i) 2 1) t))
      by false p =
          let place : end ≡ at = is ∙ rw p in
          returned_ended p (to at place)
          ∙ (λ i. bytes_in R (finishes R h (begun s ++ between t at (sym place i))) (drop (sym place i + cond (sym p i) 2 1) t))

  -- It does not: what is left of the piece is held, or it is refused.
  pub turn_held : (over : Bool) (end : ℕ) → end ≡ run_end s.returned t at → is_ended R s.held s.returned t at end ≡ false → overrun over (bytes_in R h (drop at t)) ≡ holding (held_on R s t at end over) verdicts worked
  unfolding run_end
  turn_held over end is e = by (eqb s.returned 0) refl
    where
      to : (place : ℕ) → end ≡ place → is_ended R s.held s.returned t at place ≡ false
      to place g = ap (is_ended R s.held s.returned t at) (sym g) ∙ e

      by : (b : Bool) → eqb s.returned 0 ≡ b → overrun over (bytes_in R h (drop at t)) ≡ holding (held_on R s t at end over) verdicts worked
      by true p =
          let place : end ≡ at + span allowed (drop at t) = is ∙ rw p in
          plain_held p over (to (at + span allowed (drop at t)) place) ∙ ap (λ (k : ℕ). holding (held_on R s t at k over) verdicts worked) (sym place)
      by false p =
          let place : end ≡ at = is ∙ rw p in
          returned_held p over (to at place) ∙ ap (λ (k : ℕ). holding (held_on R s t at k over) verdicts worked) (sym place)

-- # The places

pub run_inside : (returned : ℕ) (t : Text) (at : ℕ) → at ≤ length t → (at ≤ run_end returned t at) × (run_end returned t at ≤ length t)
unfolding run_end
run_inside returned t at h = by (eqb returned 0)
  where
    by : (b : Bool) → (at ≤ cond b (at + span allowed (drop at t)) at) × (cond b (at + span allowed (drop at t)) at ≤ length t)
    by true = (omega arith, omega (arith, span_short allowed (drop at t), length-drop at t, h))
    by false = (omega arith, h)

-- Where a line ends, all its characters have room, and the next line begins inside the piece or behind it.
pub record Ends (R : Rules) (s : Link) (t : Text) (at end : ℕ) : Type 0 where
  pub room : s.held + (end - at) ≤ R.longest_line
  pub forth : at < next_place s.returned end
  pub inside : next_place s.returned end ≤ length t

pub ends_there : (R : Rules) (s : Link) (t : Text) (at end : ℕ) → s.held ≤ R.longest_line → at < length t → end ≡ run_end s.returned t at → is_ended R s.held s.returned t at end ≡ true → Ends R s t at end
unfolding run_end next_place is_ended begins crlf
ends_there R s t at end few some is e = by (eqb s.returned 0) refl
  where
    long : (v : Text) → begins crlf v ≡ true → 2 ≤ length v
    long [] e = never e
    long (c ∷ []) e = never (and_r (eqb 13 c) false e)
    long (c ∷ d ∷ v) e = omega arith

    by : (b : Bool) → eqb s.returned 0 ≡ b → Ends R s t at end
    by true p =
        let tests : (leb (s.held + (end - at)) R.longest_line && begins crlf (drop end t)) ≡ true = rw p at e in
        let place : end ≡ at + span allowed (drop at t) = is ∙ rw p in
        let two = long (drop end t) (and_r (leb (s.held + (end - at)) R.longest_line) (begins crlf (drop end t)) tests) in
        record {
          room = leb-true (s.held + (end - at)) R.longest_line (and_l (leb (s.held + (end - at)) R.longest_line) (begins crlf (drop end t)) tests);
          forth = rw p (omega (arith, place));
          inside = rw p (omega (arith, two, length-drop end t));
        }
    by false p =
        let place : end ≡ at = is ∙ rw p in
        record {
          room = omega (arith, place, few);
          forth = rw p (omega (arith, place));
          inside = rw p (omega (arith, place, some));
        }
