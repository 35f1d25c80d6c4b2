-- W7: "After the closing call, classes, totals and refusal are those for the joined bytes": what a caller has between two calls is the link of the
-- rules, of which that is proved.
-- Assumes nothing.
use Rattle.std.specs.Prelude.{ℕ, ◌*◌, ◌≤◌, ◌<◌, ◌≡◌, false, List, [], ◌∷◌, length}
use Rattle.rules.specs.Text.{Text}
use Rattle.rules.specs.Rules.{Rules}
use Rattle.rules.specs.Judging.{verdicts_of_log, zero_totals}
use Rattle.rules.specs.Reading.{refusal}
use Rattle.rules.specs.Answers.{over}
use Rattle.rules.specs.Demands.{AddUp}
use Rattle.rules.specs.Given.{LineAndField}
use Rattle.rules.specs.Link.{Lent, worked_bytes, fed_all, log_of, link_verdicts}
use Rattle.rules.specs.Link as Asked
use Rattle.judge.specs.Bounds.{most_worth}
use Rattle.session.specs.Entry.{FitsBytes, bytes_of}
use Rattle.link.specs.declared.Closing.{Closing}
use Rattle.link.specs.declared.Link.{Link}
use Rattle.link.specs.Link.{Holding, holding, stopped_by, is_open, lent_of, lent_by, feed, close, unended}

-- A link to which nothing came yet.
abbrev pub opened : Link
opened = stopped_by (refusal 0 0 0)

-- What the caller has after these pieces, one behind the other: the slices are lent unaltered to each call.
unfoldable pub held_after : Rules → Holding → List Text → Holding
unfolding feed
held_after R h [] = h
held_after R h (p ∷ ps) = held_after R (feed R h p) ps

-- What is worked: of each record that was taken so far its call, square and exchange, 24 bytes of it.
unfoldable pub worked_of : Rules → Asked.Link → Text
unfolding bytes_of log_of verdicts_of_log
worked_of R k = bytes_of R worked_bytes (log_of k).records (verdicts_of_log R (log_of k))

-- The caller has what the link of the rules comes to: its refusal, its verdicts in front of the one slice, and what is worked in front of the
-- other. All else of both is as it was lent, so nothing is written past N verdicts and 24 x N bytes.
pub record Keeps (R : Rules) (k : Asked.Link) (verdicts worked : List ℕ) (h : Holding) : Type 0 where
  pub refusal_is : h.link.refusal ≡ k.refusal
  pub verdicts_are : h.verdicts ≡ over (link_verdicts R k) verdicts
  pub worked_is : h.worked ≡ over (worked_of R k) worked
  pub verdicts_within : length (link_verdicts R k) ≤ k.announced
  pub worked_within : length (worked_of R k) ≤ k.announced * worked_bytes

-- So it is after any pieces, and the closing answers what that of the rules does.
pub record KeptAsFed (R : Rules) (verdicts worked : List ℕ) (ps : List Text) : Type 0 where
  pub held :
      Keeps R (fed_all R (lent_of (length verdicts) (length worked)) Asked.opened ps) verdicts worked (held_after R (holding opened verdicts worked) ps)
  pub closes :
      let lent = lent_of (length verdicts) (length worked) in
      let c = Asked.close R lent (fed_all R lent Asked.opened ps) in
      let h = held_after R (holding opened verdicts worked) ps in
      let d = close R (lent_by h) h.link in
      (d.refusal ≡ c.refusal) × (d.totals ≡ c.totals) × (d.link.refusal ≡ c.link.refusal)

-- "After a refusal all further calls repeat it and change nothing.": of any state, whatever is lent and whatever comes.
pub record RefusedLeaves (R : Rules) (h : Holding) : Type 0 where
  pub feeding : (s : Text) → feed R h s ≡ h
  pub closing : (lent : Lent) → close R lent h.link ≡ unended h.link

-- Demand 1: "the totals are then zero"; and "the state keeps the refusal".
pub record RefusedAtLast (c : Closing) : Type 0 where
  pub totals : c.totals ≡ zero_totals
  pub kept : c.link.refusal ≡ c.refusal

-- What a closing tells of any state, whatever is lent. W4: the modes "add up to the credited count wherever totals are made or kept".
pub record ClosesRightly (c : Closing) : Type 0 where
  pub refused : (c.refusal.number ≡ 0 → ⊥) → RefusedAtLast c
  pub modes : AddUp c.totals

-- Demand 1: "refused with a number, a line and a field". Where a state keeps a refusal with line and field as document 01 has them, or none, each call
-- tells one so, whatever else the state is, whatever is lent and whatever comes.
pub record PlacedRightly (R : Rules) (h : Holding) : Type 0 where
  pub feeding : (s : Text) → LineAndField (feed R h s).link.refusal
  pub closing : (lent : Lent) → LineAndField (close R lent h.link).refusal

-- What the rules have to keep to for a state to hold all of it: what is worked fits its bytes, and each number of the state its two or four bytes.
pub record FitsLink (R : Rules) : Type 0 where
  pub bytes : FitsBytes R
  pub line : R.longest_line ≤ 75
  pub records : R.most_records < 65_536
  pub points : R.most_records * most_worth R < 4_294_967_296
  pub bonus : R.most_bonus < 65_536
  pub multiplier : R.most_multiplier < 65_536

pub record TheLinkKeeps (R : Rules) : Type 0 where
  pub kept_as_fed : (verdicts worked : List ℕ) (ps : List Text) → KeptAsFed R verdicts worked ps
  pub refused_leaves : (h : Holding) → is_open h.link ≡ false → RefusedLeaves R h
  pub closes_rightly : (lent : Lent) (s : Link) → ClosesRightly (close R lent s)
  pub placed_rightly : (h : Holding) → LineAndField h.link.refusal → PlacedRightly R h
