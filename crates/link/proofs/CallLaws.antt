-- What is asked first in a call, and what is answered by it.
-- Assumes nothing.
use Prim.Native.Nat.{ℕ, ◌-◌, ◌≤◌, min}
use native.Mathlib.Omega.{arith}
use mathlib.Core.Path.{◌≡◌, refl, sym, ap, ◌∙◌}
use mathlib.Core.Bool.{Bool, true, false, cond, not}
use mathlib.Core.List.{[], ◌∷◌}
use lib.Dec.{ltb}
use lib.ListN.{length, take, get_or}
use borrow.Author.Tests.{eq-eqb, not-true, not-false}
use Rattle.rules.specs.declared.Due.{Due}
use Rattle.rules.specs.declared.Due.TheVariants.{Identifier, Keyword, Remarks, Remark, Record, End}
use Rattle.rules.specs.Text.{Text, all}
use Rattle.rules.specs.Rules.{Rules}
use Rattle.rules.specs.Reading.{refusal, Reading, accepted, refused, at_rest}
use Rattle.rules.specs.Link.{Lent, is_short}
use Rattle.link.specs.declared.Closing.{Closing}
use Rattle.link.specs.declared.Link.{Link}
use Rattle.link.specs.Link.{Holding, holding, stopped_by, is_open, announced, lent_by, if_long, with_text, on_link, bytes_in, is_sound, asked, counted, overrun, taken, feed, unended, line_of, due_of, rest_of, accepted_by, ended_by, ended, close}
use Rattle.link.specs.Piece.{rested_by}
use Rattle.rules.proofs.Tests.{never, clash}
use Rattle.link.proofs.ByteLaws.{Buffered, bytes_run}
use Rattle.link.proofs.TestLaws.{Takes}

-- # What is asked

module _ (R : Rules) (lent : Lent) (s : Link) where
  pub asked_refused : is_open s ≡ false → asked R lent s ≡ s
  unfolding asked
  asked_refused e = rw e

  pub asked_unsound : is_open s ≡ true → is_sound R s ≡ false → asked R lent s ≡ stopped_by (refusal 13 0 0)
  unfolding asked
  asked_unsound o e = rw (o, e)

  module _ (o : is_open s ≡ true) (sound : is_sound R s ≡ true) where
    pub asked_short : not (is_short lent (announced s)) ≡ false → asked R lent s ≡ stopped_by (refusal 7 0 0)
    unfolding asked if_long
    asked_short e = rw (o, sound, not-false (is_short lent (announced s)) e)

    pub asked_well : not (is_short lent (announced s)) ≡ true → asked R lent s ≡ s
    unfolding asked if_long
    asked_well e = rw (o, sound, not-true (is_short lent (announced s)) e)

  -- A call that goes on finds the state as it is, and that is sound.
  pub asked_on : is_open (asked R lent s) ≡ true → (asked R lent s ≡ s) × (is_sound R s ≡ true)
  unfolding asked if_long stopped_by
  asked_on e = by (is_open s) (is_sound R s) (is_short lent (announced s)) e refl
    where
      by : (a b c : Bool) → is_open (cond a (cond b (cond c (stopped_by (refusal 7 0 0)) s) (stopped_by (refusal 13 0 0))) s) ≡ true → is_open s ≡ a → (cond a (cond b (cond c (stopped_by (refusal 7 0 0)) s) (stopped_by (refusal 13 0 0))) s ≡ s) × (b ≡ true)
      by true true true g o = never g
      by true true false g o = (refl, refl)
      by true false c g o = never g
      by false b c g o = clash g o

-- # What is answered

module _ (R : Rules) where
  module _ (h : Holding) (t : Text) where
    abbrev answered : Link → Holding
    answered a =
        let after = taken R (holding a h.verdicts h.worked) t in
        cond (is_open a) after (holding a h.verdicts h.worked)

    -- The call refuses, or it takes the bytes.
    pub feed_by : (a : Link) → asked R (lent_by h) h.link ≡ a → is_open a ≡ false → holding a h.verdicts h.worked ≡ feed R h t
    unfolding feed
    feed_by a e c = ap (λ (b : Bool). cond b (taken R (holding a h.verdicts h.worked) t) (holding a h.verdicts h.worked)) (sym c) ∙ ap answered (sym e)

    pub feed_on : asked R (lent_by h) h.link ≡ h.link → is_open h.link ≡ true → taken R h t ≡ feed R h t
    unfolding feed
    feed_on e o = ap (λ (b : Bool). cond b (taken R h t) h) (sym o) ∙ ap answered (sym e)

  module _ (lent : Lent) (s : Link) where
    abbrev closes : Link → Closing
    closes a = cond (is_open a) (ended R a) (unended a)

    -- The closing refuses, or it says what the end of the bytes means: that is refused, or all is there.
    pub close_by : (a : Link) → asked R lent s ≡ a → is_open a ≡ false → unended a ≡ close R lent s
    unfolding close
    close_by a e c = ap (λ (b : Bool). cond b (ended R a) (unended a)) (sym c) ∙ ap closes (sym e)

    close_on : (a : Link) → asked R lent s ≡ a → is_open a ≡ true → ended R a ≡ close R lent s
    unfolding close
    close_on a e o = ap (λ (b : Bool). cond b (ended R a) (unended a)) (sym o) ∙ ap closes (sym e)

    module _ (a : Link) (is : asked R lent s ≡ a) (o : is_open a ≡ true) (t : Link) (rests : t ≡ rested_by a (at_rest (due_of a) (line_of a) (rest_of a))) where
      pub close_unended : is_open t ≡ false → unended t ≡ close R lent s
      unfolding ended
      close_unended c = by (at_rest (due_of a) (line_of a) (rest_of a)) rests ∙ close_on a is o
        where
          by : (r : Reading) → t ≡ rested_by a r → unended t ≡ ended_by R a r
          by (accepted log) e = unfold rested_by in clash (ap is_open e ∙ o) c
          by (refused r) e = unfold rested_by ended_by in ap unended e

      -- What is refused there has a number.
      all_there : (due : Due) (n : ℕ) (u : Text) → is_open (rested_by a (at_rest due n u)) ≡ true → accepted_by R (rested_by a (at_rest due n u)) ≡ ended_by R a (at_rest due n u)
      unfolding rested_by at_rest ended_by stopped_by
      all_there Identifier n u e = never e
      all_there (Keyword k) n u e = never e
      all_there Remarks n u e = never e
      all_there Remark n u e = never e
      all_there (Record m) n [] e = never e
      all_there (Record m) n (c ∷ u) e = never e
      all_there End n [] e = refl
      all_there End n (c ∷ u) e = never e

      pub close_accepts : is_open t ≡ true → accepted_by R t ≡ close R lent s
      unfolding ended
      close_accepts c =
          ap (accepted_by R) rests
          ∙ all_there (due_of a) (line_of a) (rest_of a) (ap is_open (sym rests) ∙ c)
          ∙ close_on a is o

-- # The bytes that are taken

module _ (R : Rules) (h : Holding) where
  pub taken_by : (t : Text) {n : ℕ} {j : Link} → n ≡ min (length t) (R.longest_log - h.link.count) → j ≡ counted n h.link → overrun (ltb n (length t)) (bytes_in R (holding j h.verdicts h.worked) (take n t)) ≡ taken R h t
  unfolding taken
  taken_by t {n} e f =
      ap (λ (s : Link). overrun (ltb n (length t)) (bytes_in R (holding s h.verdicts h.worked) (take n t))) f
      ∙ ap (λ (m : ℕ). overrun (ltb m (length t)) (bytes_in R (on_link (counted m) h) (take m t))) e

  -- One byte that is put behind those that are held.
  module _ (b : ℕ) (k : Takes R h.link b) (unrefused : is_open h.link ≡ true) (room : R.longest_line ≤ length h.link.line) where
    abbrev one : Holding
    one = on_link (counted 1) h

    buffered : Buffered R one
    unfolding counted
    buffered =
        record {
          coming = record { unrefused = unrefused; line = k.line };
          plain = rw (eq-eqb h.link.returned 0 k.plain) refl;
          room = room;
        }

    behind : bytes_in R one (b ∷ []) ≡ on_link (λ (s : Link). counted 1 (with_text (b ∷ []) s)) h
    unfolding bytes_in counted with_text
    behind = bytes_run R (b ∷ []) one [] buffered (unfold all in rw k.good refl) (omega (arith, k.short))

    pub taken_byte : on_link (λ (s : Link). counted 1 (with_text (b ∷ []) s)) h ≡ taken R h (b ∷ [])
    taken_byte =
        let all : bytes_in R one (b ∷ []) ≡ overrun false (bytes_in R one (b ∷ [])) = unfold overrun in refl in
        sym behind
        ∙ all
        ∙ taken_by (b ∷ []) {n = 1} {j = counted 1 h.link} (omega (arith, k.room)) refl

pub single : (t : Text) → length t ≡ 1 → t ≡ get_or t 0 0 ∷ []
single [] e = absurd (omega (arith, e))
single (c ∷ []) e = refl
single (c ∷ d ∷ t) e = absurd (omega (arith, e))
