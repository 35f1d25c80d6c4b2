-- A caller who keeps the link in a state and two slices has the link of the rules: after each piece, and at the closing.
-- Assumes nothing.
use Prim.Native.Nat.{ℕ, suc, ◌+◌, ◌-◌, ◌≤◌, min}
use native.Mathlib.Omega.{arith}
use mathlib.Core.Path.{◌≡◌, refl, sym, ap, subst, ◌∙◌}
use mathlib.Core.Bool.{Bool, true, false, cond}
use mathlib.Core.List.{List, [], ◌∷◌, ◌++◌}
use lib.Dec.{eqb, ltb}
use lib.ListN.{length, take, drop, get_or, take-append-drop, drop_of_length-le}
use lib.Seq.{length-take-le, drop-cons}
use borrow.Author.Tests.{lt-ltb, le-ltb, le-leb, ltb-true, ltb-false}
use Rattle.rules.specs.declared.Refusal.{Refusal}
use Rattle.rules.specs.Text.{Text}
use Rattle.rules.specs.Rules.{Rules, base}
use Rattle.rules.specs.Log.{record_rules}
use Rattle.rules.specs.Judging.{Declared, verdicts_of_log, totals, totals_of_log, modes_together, zero_modes, zero_totals}
use Rattle.rules.specs.Judging.{verdicts as judged}
use Rattle.rules.specs.Reading.{refusal, Reading, accepted, refused, at_rest}
use Rattle.rules.specs.Answers.{no_refusal}
use Rattle.rules.specs.Link.{Lent, is_short, link_verdicts, log_of}
use Rattle.rules.specs.Link as Asked
use Rattle.rules.proofs.Tests.{clash}
use Rattle.rules.proofs.Refusals.{on_test}
use Rattle.rules.proofs.LinkBytes.{refused_bytes, bytes_joined, none_short}
use Rattle.judge.specs.Narrow.{sums_in}
use Rattle.judge.specs.Sums.{totals_kept}
use Rattle.judge.proofs.SumLaws.{kept_add_up_lem}
use Rattle.session.specs.Entry.{bytes_of}
use Rattle.session.proofs.FilledLaws.{base_fits_bytes}
use Rattle.link.specs.declared.Link.{Link}
use Rattle.link.specs.declared.Closing.{Closing}
use Rattle.link.specs.Link.{Holding, holding, stopped_by, stopped, is_open, line_of, due_of, announced, declared_in, lent_by, if_long, on_link, byte_in, bytes_in, is_sound, asked, counted, overrun, taken, feed, unended, rest_of, accepted_by, ended_by, ended, close, placed}
use Rattle.link.specs.Keeping.{opened, held_after, worked_of, FitsLink, KeptAsFed, RefusedLeaves, ClosesRightly, TheLinkKeeps}
use Rattle.link.proofs.StateLaws.{sound_held}
use Rattle.link.proofs.LogGrows.{records_of, arguments_of}
use Rattle.link.proofs.SliceLaid.{over_nothing}
use Rattle.link.proofs.SumsHeld.{sums_none, sums_close}
use Rattle.link.proofs.RatesHeld.{declares_none, declared_is, declared_ruled}
use Rattle.link.proofs.DueLaws.{ahead_end}
use Rattle.link.proofs.HeldLaws.{CountHeld, lent, Open, Kept, line_none, due_same, announced_same, records_few, keeps_same, kept_stopped, lent_same}
use Rattle.link.proofs.ByteHeld.{byte_placed}
use Rattle.link.proofs.CallLaws.{asked_refused, feed_by, close_by}
use Rattle.link.proofs.PlacedLaws.{placed_rightly_lem}

-- # A refusal stays

module _ (R : Rules) (h : Holding) (closed : is_open h.link ≡ false) where
  pub refused_leaves_lem : RefusedLeaves R h
  refused_leaves_lem =
      record {
        feeding = λ t. sym (feed_by R h t h.link (asked_refused R (lent_by h) h.link closed) closed);
        closing = λ l. sym (close_by R l h.link h.link (asked_refused R l h.link closed) closed);
      }

-- # What a closing tells, whatever the state is

module _ (R : Rules) where
  zeros_told : (s : Link) → ClosesRightly (unended s)
  unfolding unended zero_totals zero_modes modes_together
  zeros_told s = record { refused = λ n. record { totals = refl; kept = refl }; modes = refl }

  ended_rightly : (s : Link) (a : Reading) → ClosesRightly (ended_by R s a)
  unfolding ended_by accepted_by no_refusal
  ended_rightly s (accepted log) =
      record { refused = λ n. absurd (n refl); modes = kept_add_up_lem R (sums_in s.points s.counts) (declared_in s.rated) }
  ended_rightly s (refused r) = zeros_told (stopped_by r)

  closes_rightly_lem : (l : Lent) (s : Link) → ClosesRightly (close R l s)
  unfolding close ended
  closes_rightly_lem l s =
      let a = asked R l s in
      on_test ClosesRightly (is_open a) (ended_rightly a (at_rest (due_of a) (line_of a) (rest_of a))) (zeros_told a)

module _ {R : Rules} (F : FitsLink R) (verdicts worked : List ℕ) where
  abbrev lends : Lent
  lends = lent F verdicts worked

  abbrev Holds : (total left : ℕ) → Asked.Link → Holding → Type 0
  Holds = Kept F verdicts worked

  -- Both refuse, or neither does.
  open_same : (total left : ℕ) (k : Asked.Link) (h : Holding) → Holds total left k h → is_open h.link ≡ Asked.is_open k
  open_same total left k h holds = ap (λ (r : Refusal). eqb r.number 0) holds.keeps.refusal_is

  -- # Bytes

  -- A refused link stays as it is, whatever is counted.
  still_refused : (total left more less : ℕ) (k : Asked.Link) (h : Holding) → Asked.is_open k ≡ false → Holds total left k h → Holds more less k h
  still_refused total left more less k h e holds = record { keeps = holds.keeps; unless = λ u. clash u e }

  -- A byte is counted, and then placed.
  one_placed : (total left : ℕ) (k : Asked.Link) (h : Holding) (b : ℕ) → Holds total (suc left) k h → Open F verdicts worked total (suc left) k h.link → Holds total left (Asked.placed R lends k.due (Asked.counted k) b) (placed R h b (due_of h.link))
  unfolding Asked.counted log_of
  one_placed total left k h b holds o =
      byte_placed F verdicts worked total left (Asked.counted k) h
      (keeps_same F verdicts worked k (Asked.counted k) refl h h.link holds.keeps.refusal_is (omega arith) holds.keeps)
      (record { bytes = one_counted; line = o.line; log = o.log })
      (omega (arith, o.bytes.lines_few))
      b
    where
      one_counted : CountHeld R total left (k.count + 1) (length k.finished) h.link.count h.link.lines
      one_counted =
          record {
            count_is = o.bytes.count_is;
            comes = omega (arith, o.bytes.comes);
            within = o.bytes.within;
            lines_are = o.bytes.lines_are;
            lines_few = omega (arith, o.bytes.lines_few);
          }

  byte_held : (total left : ℕ) (k : Asked.Link) (h : Holding) (b : ℕ) → Holds total (suc left) k h → Holds total left (Asked.byte_in R lends k b) (byte_in R h b)
  unfolding Asked.byte_in Asked.taken byte_in
  byte_held total left k h b holds = by (Asked.is_open k) refl
    where
      by : (c : Bool) → Asked.is_open k ≡ c → Holds total left (Asked.byte_in R lends k b) (byte_in R h b)
      by false e =
          rw (e, open_same total (suc left) k h holds ∙ e) (still_refused total (suc left) total left k h e holds)
      by true e =
          let o = holds.unless e in
          let below = lt-ltb k.count R.longest_log (omega (arith, o.bytes.comes, o.bytes.within)) in
          rw (e, open_same total (suc left) k h holds ∙ e, below) (one_placed total left k h b holds o)

  bytes_held : (t : Text) (total : ℕ) (k : Asked.Link) (h : Holding) → Holds total (length t) k h → Holds total 0 (Asked.bytes_in R lends k t) (bytes_in R h t)
  unfolding Asked.bytes_in bytes_in
  bytes_held [] total k h holds = holds
  bytes_held (b ∷ t) total k h holds = bytes_held t total (Asked.byte_in R lends k b) (byte_in R h b) (byte_held total (length t) k h b holds)

  -- The first byte that is too many for a log, unless the bytes before it already settle a refusal.
  one_too_many : (total : ℕ) (k : Asked.Link) (h : Holding) (b : ℕ) (t : Text) → Holds total 0 k h → R.longest_log ≤ total → Holds total 0 (Asked.bytes_in R lends k (b ∷ t)) (overrun true h)
  unfolding overrun
  one_too_many total k h b t holds full = by (Asked.is_open k) refl
    where
      stop : Asked.Link
      stop = Asked.stopped k (refusal 1 0 0)

      byte_stops : Asked.is_open k ≡ true → Asked.byte_in R lends k b ≡ stop
      byte_stops e = let o = holds.unless e in unfold Asked.byte_in Asked.taken in rw (e, le-ltb k.count R.longest_log (omega (arith, o.bytes.comes, full)))

      by : (c : Bool) → Asked.is_open k ≡ c → Holds total 0 (Asked.bytes_in R lends k (b ∷ t)) (cond (is_open h.link) (stopped h (refusal 1 0 0)) h)
      by false e = rw (refused_bytes R lends k (b ∷ t) e, open_same total 0 k h holds ∙ e) holds
      by true e =
          let here : Asked.bytes_in R lends k (b ∷ t) ≡ Asked.bytes_in R lends stop t =
          unfold Asked.bytes_in in ap (λ (j : Asked.Link). Asked.bytes_in R lends j t) (byte_stops e) in
          let after = here ∙ refused_bytes R lends stop t (unfold Asked.stopped in refl) in
          rw (after, open_same total 0 k h holds ∙ e) (kept_stopped F verdicts worked total 0 k h (refusal 1 0 0) (refusal 1 0 0) refl refl holds.keeps)

  -- # A piece

  -- A link that does not refuse is asked for nothing: it is sound, and the slices are long enough.
  module _ (total : ℕ) (k : Asked.Link) (h : Holding) (holds : Holds total 0 k h) (unrefused : Asked.is_open k ≡ true) where
    abbrev s : Link
    s = h.link

    o : Open F verdicts worked total 0 k s
    o = holds.unless unrefused

    open_state : is_open s ≡ true
    open_state = open_same total 0 k h holds ∙ unrefused

    sound_state : is_sound R s ≡ true
    sound_state =
        sym (sound_held R s (omega (arith, o.bytes.count_is, o.bytes.within)) (omega (arith, o.bytes.count_is, o.bytes.comes, o.bytes.lines_are, o.bytes.lines_few)))
        ∙ le-leb s.held 75 (omega (arith, o.line.held_is, o.line.short, F.line))

    long_held : is_short (lent_by h) (announced s) ≡ false
    long_held =
        (λ i. is_short (lent_same F verdicts worked k h holds.keeps o.log.fit i) (announced_same F verdicts worked o i)) ∙ o.log.fit

    asked_state : asked R (lent_by h) s ≡ s
    unfolding asked if_long
    asked_state = rw (open_state, sound_state, long_held)

    asked_link : Asked.asked lends k ≡ k
    unfolding Asked.asked Asked.if_long
    asked_link = rw (unrefused, o.log.fit)

    -- So many bytes of a piece are counted at once.
    module _ (t : Text) where
      abbrev n : ℕ
      n = min (length t) (R.longest_log - s.count)

      abbrev ahead : Holding
      ahead = on_link (counted n) h

      counted_held : Holds (total + n) n k ahead
      unfolding counted
      counted_held =
          record {
            keeps = keeps_same F verdicts worked k k refl h (counted n s) holds.keeps.refusal_is (omega arith) holds.keeps;
            unless = λ u.
                record {
                  bytes = record {
                    count_is = omega (arith, o.bytes.count_is);
                    comes = omega (arith, o.bytes.comes);
                    within = omega (arith, o.bytes.count_is, o.bytes.within);
                    lines_are = o.bytes.lines_are;
                    lines_few = o.bytes.lines_few;
                  };
                  line = o.line;
                  log = o.log;
                };
          }

      front_long : length (take n t) ≡ n
      front_long = length-take-le n t (omega arith)

      abbrev fed_link : Asked.Link
      fed_link = Asked.bytes_in R lends k (take n t)

      abbrev fed_holding : Holding
      fed_holding = bytes_in R ahead (take n t)

      front_held : Holds (total + n) 0 fed_link fed_holding
      front_held = bytes_held (take n t) (total + n) k ahead (subst (λ (m : ℕ). Holds (total + n) m k ahead) (sym front_long) counted_held)

      taken_held : Holds (total + n) 0 (Asked.bytes_in R lends k t) (taken R h t)
      unfolding taken
      taken_held =
          subst (λ (u : Text). Holds (total + n) 0 (Asked.bytes_in R lends k u) (overrun (ltb n (length t)) fed_holding)) (take-append-drop n t)
          (subst (λ (j : Asked.Link). Holds (total + n) 0 j (overrun (ltb n (length t)) fed_holding)) (sym (bytes_joined R lends k (take n t) (drop n t)))
          (by (ltb n (length t)) refl))
        where
          by : (c : Bool) → ltb n (length t) ≡ c → Holds (total + n) 0 (Asked.bytes_in R lends fed_link (drop n t)) (overrun c fed_holding)
          by true e =
              let more = ltb-true n (length t) e in
              subst (λ (u : Text). Holds (total + n) 0 (Asked.bytes_in R lends fed_link u) (overrun true fed_holding)) (sym (drop-cons t n 0 more))
              (one_too_many (total + n) fed_link fed_holding (get_or t n 0) (drop (suc n) t) front_held (omega (arith, more, o.bytes.count_is, o.bytes.within)))
          by false e =
              subst (λ (u : Text). Holds (total + n) 0 (Asked.bytes_in R lends fed_link u) fed_holding) (sym (drop_of_length-le t (ltb-false n (length t) e)))
              (unfold Asked.bytes_in in front_held)

      feed_taken : Holds (total + n) 0 (Asked.feed R lends k t) (feed R h t)
      unfolding Asked.feed feed
      feed_taken =
          subst (λ (j : Asked.Link). Holds (total + n) 0 (Asked.bytes_in R lends j t) (feed R h t)) (sym asked_link)
          (subst (λ (a : Link). Holds (total + n) 0 (Asked.bytes_in R lends k t) (cond (is_open a) (taken R (holding a h.verdicts h.worked) t) (holding a h.verdicts h.worked))) (sym asked_state)
          (subst (λ (c : Bool). Holds (total + n) 0 (Asked.bytes_in R lends k t) (cond c (taken R h t) h)) (sym open_state) taken_held))

  feed_held : (total : ℕ) (k : Asked.Link) (h : Holding) (t : Text) → Holds total 0 k h → (more : ℕ) × Holds more 0 (Asked.feed R lends k t) (feed R h t)
  unfolding Asked.feed Asked.asked
  feed_held total k h t holds = by (Asked.is_open k) refl
    where
      by : (c : Bool) → Asked.is_open k ≡ c → (more : ℕ) × Holds more 0 (Asked.feed R lends k t) (feed R h t)
      by true e = (total + n total k h holds e t, feed_taken total k h holds e t)
      by false e =
          let same : Asked.feed R lends k t ≡ k = rw e (refused_bytes R lends k t e) in
          (total, subst (λ (j : Asked.Link). Holds total 0 j (feed R h t)) (sym same) (subst (Holds total 0 k) (sym ((refused_leaves_lem R h (open_same total 0 k h holds ∙ e)).feeding t)) holds))

  pieces_held : (ps : List Text) (total : ℕ) (k : Asked.Link) (h : Holding) → Holds total 0 k h → (more : ℕ) × Holds more 0 (Asked.fed_all R lends k ps) (held_after R h ps)
  unfolding Asked.fed_all held_after
  pieces_held [] total k h holds = (total, holds)
  pieces_held (p ∷ ps) total k h holds =
      let one = feed_held total k h p holds in
      pieces_held ps one.0 (Asked.feed R lends k p) (feed R h p) one.1

  -- # The closing

  pub record Closes (k : Asked.Link) (h : Holding) : Type 0 where
    pub refusal_is : (close R (lent_by h) h.link).refusal ≡ (Asked.close R lends k).refusal
    pub totals_are : (close R (lent_by h) h.link).totals ≡ (Asked.close R lends k).totals
    pub link_is : (close R (lent_by h) h.link).link.refusal ≡ (Asked.close R lends k).link.refusal

  closes_so : (k : Asked.Link) (h : Holding) (d : Closing) (c : Asked.Closed) → close R (lent_by h) h.link ≡ d → Asked.close R lends k ≡ c → d.refusal ≡ c.refusal → d.totals ≡ c.totals → d.link.refusal ≡ c.link.refusal → Closes k h
  closes_so k h d c e f r t l =
      record {
        refusal_is = ap (λ (x : Closing). x.refusal) e ∙ r ∙ ap (λ (x : Asked.Closed). x.refusal) (sym f);
        totals_are = ap (λ (x : Closing). x.totals) e ∙ t ∙ ap (λ (x : Asked.Closed). x.totals) (sym f);
        link_is = ap (λ (x : Closing). x.link.refusal) e ∙ l ∙ ap (λ (x : Asked.Closed). x.link.refusal) (sym f);
      }

  -- A link that does not refuse ends as its rest says.
  module _ (total : ℕ) (k : Asked.Link) (h : Holding) (holds : Holds total 0 k h) (unrefused : Asked.is_open k ≡ true) where
    abbrev at_last : Reading
    at_last = at_rest k.due (Asked.line_of k) (Asked.rest_of k)

    abbrev kept : Open F verdicts worked total 0 k h.link
    kept = o total k h holds unrefused

    last_told : at_rest (due_of h.link) (line_of h.link) (rest_of h.link) ≡ at_last
    last_told =
        λ i. at_rest (due_same F verdicts worked kept i) (kept.bytes.lines_are i + 1) (kept.line.begun_is i ++ cond (kept.line.returned_is i) (13 ∷ []) [])

    state_ends : close R (lent_by h) h.link ≡ ended_by R h.link at_last
    unfolding close ended
    state_ends =
        ap (λ (s : Link). cond (is_open s) (ended R s) (unended s)) (asked_state total k h holds unrefused)
        ∙ ap (λ (c : Bool). cond c (ended R h.link) (unended h.link)) (open_state total k h holds unrefused)
        ∙ ap (ended_by R h.link) last_told

    link_ends : Asked.close R lends k ≡ Asked.closed_by R k at_last
    unfolding Asked.close Asked.closed_if
    link_ends = ap (Asked.closed_if R) (asked_link total k h holds unrefused) ∙ ap (λ (c : Bool). cond c (Asked.closed_by R k at_last) (record { link = k; refusal = k.refusal; totals = zero_totals })) unrefused

    -- The totals of all records, where nothing more is due.
    totals_held : length (arguments_of k) ≡ 36 → totals_kept R (sums_in h.link.points h.link.counts) (declared_in h.link.rated) ≡ totals_of_log R (log_of k)
    unfolding totals_of_log
    totals_held many =
        let s = h.link in
        let few = records_few F verdicts worked kept in
        sums_close F s.points s.counts (records_of k) kept.log.sums (declared_in s.rated) kept.log.ruled (omega (arith, few, kept.log.few)) (declared_ruled R (log_of k) s.rated kept.log.rates many)
        ∙ ap (λ (d : Declared). totals R d (records_of k)) (declared_is R (log_of k) s.rated kept.log.rates many)

    close_open : Closes k h
    unfolding ended_by accepted_by Asked.closed_by unended Asked.stopped stopped_by
    close_open = by at_last refl
      where
        by : (a : Reading) → at_last ≡ a → Closes k h
        by (accepted log) e =
            closes_so k h (ended_by R h.link (accepted log)) (Asked.closed_by R k (accepted log)) (state_ends ∙ ap (ended_by R h.link) e) (link_ends ∙ ap (Asked.closed_by R k) e)
            refl
            (totals_held (ahead_end R k.due (Asked.line_of k) (Asked.rest_of k) log (length (arguments_of k)) e kept.log.ahead))
            refl
        by (refused r) e =
            closes_so k h (ended_by R h.link (refused r)) (Asked.closed_by R k (refused r)) (state_ends ∙ ap (ended_by R h.link) e) (link_ends ∙ ap (Asked.closed_by R k) e)
            refl
            refl
            refl

  close_held : (total : ℕ) (k : Asked.Link) (h : Holding) → Holds total 0 k h → Closes k h
  unfolding Asked.close Asked.closed_if Asked.asked unended
  close_held total k h holds = by (Asked.is_open k) refl
    where
      by : (c : Bool) → Asked.is_open k ≡ c → Closes k h
      by true e = close_open total k h holds e
      by false e =
          let c : Asked.Closed = record { link = k; refusal = k.refusal; totals = zero_totals } in
          let still : Asked.asked lends k ≡ k = rw e in
          let same : Asked.close R lends k ≡ c =
          ap (Asked.closed_if R) still ∙ ap (λ (b : Bool). cond b (Asked.closed_by R k (at_rest k.due (Asked.line_of k) (Asked.rest_of k))) c) e in
          closes_so k h (unended h.link) c ((refused_leaves_lem R h (open_same total 0 k h holds ∙ e)).closing (lent_by h)) same
          holds.keeps.refusal_is refl holds.keeps.refusal_is

  -- # From the opening on

  opening_held : Holds 0 0 Asked.opened (holding opened verdicts worked)
  unfolding Asked.opened stopped_by link_verdicts worked_of log_of bytes_of verdicts_of_log judged no_refusal
  opening_held =
      record {
        keeps = record {
          refusal_is = refl;
          verdicts_are = sym (over_nothing verdicts);
          worked_is = sym (over_nothing worked);
          verdicts_within = omega arith;
          worked_within = omega arith;
        };
        unless = λ u.
            record {
              bytes = record { count_is = refl; comes = refl; within = omega arith; lines_are = refl; lines_few = omega arith };
              line = line_none R;
              log = record {
                staged = (refl, refl, refl);
                ahead = refl;
                few = omega arith;
                fit = none_short lends;
                ruled = unfold record_rules in refl;
                sums = sums_none R;
                rates = declares_none R;
              };
            };
      }

  pub kept_as_fed_lem : (ps : List Text) → KeptAsFed R verdicts worked ps
  kept_as_fed_lem ps =
      let after = pieces_held ps 0 Asked.opened (holding opened verdicts worked) opening_held in
      let closes = close_held after.0 (Asked.fed_all R lends Asked.opened ps) (held_after R (holding opened verdicts worked) ps) after.1 in
      record { held = after.1.keeps; closes = (closes.refusal_is, closes.totals_are, closes.link_is) }

pub the_link_keeps : (R : Rules) → FitsLink R → TheLinkKeeps R
the_link_keeps R F = record { kept_as_fed = kept_as_fed_lem F; refused_leaves = refused_leaves_lem R; closes_rightly = closes_rightly_lem R; placed_rightly = placed_rightly_lem R F }

-- The rules of document 01 keep to it.
pub base_fits : FitsLink base
unfolding base
base_fits =
    record {
      bytes = base_fits_bytes;
      line = omega arith;
      records = omega arith;
      points = omega arith;
      bonus = omega arith;
      multiplier = omega arith;
    }
