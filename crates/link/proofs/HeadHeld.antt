-- A line in front of the records is finished: state and link go on to the same, or refuse alike.
-- Assumes nothing.
use Prim.Native.Nat.{ℕ, ◌+◌, ◌≤◌, ◌<◌}
use native.Mathlib.Omega.{arith}
use mathlib.Core.Path.{◌≡◌, refl, sym, ap, subst, ◌∙◌}
use mathlib.Core.Bool.{Bool, true, false, cond}
use mathlib.Core.List.{List, ◌++◌, append-nil}
use lib.ListN.{length, length-append}
use Rattle.std.specs.Prelude.{Result, Ok, Err}
use Rattle.rules.specs.declared.Fault.{Fault}
use Rattle.rules.specs.declared.Due.{Due}
use Rattle.rules.specs.declared.Due.TheVariants.{Identifier, Keyword, Remarks, Remark, Record, End}
use Rattle.rules.specs.Text.{Text}
use Rattle.rules.specs.Rules.{Rules}
use Rattle.rules.specs.Fields.{Qso}
use Rattle.rules.specs.Log.{record_rules}
use Rattle.rules.specs.Reading.{refusal, step}
use Rattle.rules.specs.Link.{Lent, is_short, records_in}
use Rattle.rules.specs.Link as Asked
use Rattle.rules.proofs.LinkBytes.{none_short, Refuses, refuses_with}
use Rattle.judge.specs.Narrow.{low}
use Rattle.session.proofs.ComeLaws.{came_to}
use Rattle.link.specs.declared.Link.{Link}
use Rattle.link.specs.Link.{Holding, holding, stopped_by, stopped, due_of, announced, rated_by, went_on, if_long, head_goes, head_next, head_line}
use Rattle.link.specs.Keeping.{FitsLink, Keeps}
use Rattle.link.proofs.LogGrows.{arguments_on, records_of, arguments_of, records_grow, arguments_grow}
use Rattle.link.proofs.RatesHeld.{Declares}
use Rattle.link.proofs.DueLaws.{Staged, Ahead, is_head, head_stage, head_records, head_announces, ahead_few, ahead_next, declares_next}
use Rattle.link.proofs.HeldLaws.{lent, Open, Kept, count_next, line_none, due_same, keeps_same, kept_stopped, stops_here}

module _ {R : Rules} (F : FitsLink R) (verdicts worked : List ℕ) (total left : ℕ) (k : Asked.Link) (h : Holding) (keeps : Keeps R k verdicts worked h) (o : Open F verdicts worked total left k h.link) (room : length k.finished < k.count) (head : is_head k.due ≡ true) where
  abbrev lends : Lent
  lends = lent F verdicts worked

  abbrev Holds : Asked.Link → Holding → Type 0
  Holds = Kept F verdicts worked total left

  abbrev s : Link
  s = h.link

  abbrev l : Text
  l = k.begun

  abbrev at_head : (s.stage < 39) × (length (records_of k) ≡ 0) × (k.announced ≡ 0)
  at_head = head_stage k.due s.stage s.records s.done (length (records_of k)) k.announced head o.log.staged

  -- It is taken, and this is due next.
  module _ (next : Due) (goes : step R k.due l ≡ Ok next) where
    abbrev on : Asked.Link
    on = Asked.goes_on k l next

    -- No record came yet, and none does.
    records_stay : records_of on ≡ records_of k
    records_stay =
        records_grow k l next ∙ ap (λ (qs : List Qso). records_of k ++ qs) (head_records k.due l head) ∙ append-nil (records_of k)

    none_taken : length (records_of on) ≡ 0
    none_taken = ap length records_stay ∙ at_head.1

    announced_on_lem : on.announced ≡ records_in next
    unfolding Asked.goes_on
    announced_on_lem = head_announces k.due next k.announced head

    -- The arguments, and what they declare.
    ahead_on : Ahead R next (length (arguments_of on))
    ahead_on =
        subst (Ahead R next) (sym (ap length (arguments_grow k l next) ∙ length-append (arguments_of k) (arguments_on k.due l)))
        (ahead_next R k.due l next (length (arguments_of k)) head o.log.ahead goes)

    rates_on : Declares R (arguments_of on) (rated_by R (due_of s) l s.rated)
    rates_on =
        subst (λ (due : Due). Declares R (arguments_of on) (rated_by R due l s.rated)) (sym (due_same F verdicts worked o))
        (subst (λ (ts : List Text). Declares R ts (rated_by R k.due l s.rated)) (sym (arguments_grow k l next))
        (declares_next R F k.due l next (arguments_of k) s.rated head o.log.ahead goes o.log.rates))

    -- The state goes on to a stage at which the same is due.
    module _ (stage records done : ℕ) (staged : Staged next stage records done 0 (records_in next)) where
      abbrev went : Link
      went = went_on R s l stage records done

      abbrev after : Holding
      after = holding went h.verdicts h.worked

      keeps_on : Keeps R on verdicts worked after
      unfolding went_on Asked.goes_on
      keeps_on =
          keeps_same F verdicts worked k on (sym records_stay) h went keeps.refusal_is (omega (arith, at_head.2)) keeps

      open_on : is_short lends on.announced ≡ false → Open F verdicts worked total left on went
      unfolding went_on Asked.goes_on
      open_on fit =
          record {
            bytes = count_next o.bytes room;
            line = line_none R;
            log = record {
              staged = subst (λ (n : ℕ). Staged next stage records done n on.announced) (sym none_taken) (subst (Staged next stage records done 0) (sym announced_on_lem) staged);
              ahead = ahead_on;
              few = subst (λ (n : ℕ). n ≤ R.most_records) (sym announced_on_lem) (ahead_few R next (length (arguments_of on)) ahead_on);
              fit = fit;
              ruled = subst (λ (qs : List Qso). record_rules R qs ≡ true) (sym records_stay) o.log.ruled;
              sums = o.log.sums ∙ ap (came_to R) (sym records_stay);
              rates = rates_on;
            };
          }

      -- Behind any line but the count line nothing is announced.
      went_on_lem : records_in next ≡ 0 → Holds (Asked.if_long lends on) after
      unfolding Asked.if_long
      went_on_lem none =
          let fit : is_short lends on.announced ≡ false = ap (is_short lends) (announced_on_lem ∙ none) ∙ none_short lends in
          subst (λ (b : Bool). Holds (cond b (Asked.stopped on (refusal 7 0 0)) on) after) (sym fit) (record { keeps = keeps_on; unless = λ u. open_on fit })

      -- Behind the count line the slices may be too short.
      went_long : announced went ≡ records_in next → Holds (Asked.if_long lends on) (holding (if_long lends went) h.verdicts h.worked)
      unfolding Asked.if_long if_long stopped
      went_long is =
          subst (λ (n : ℕ). Holds (Asked.if_long lends on) (holding (cond (is_short lends n) (stopped_by (refusal 7 0 0)) went) h.verdicts h.worked)) (announced_on_lem ∙ sym is)
          (by (is_short lends on.announced) refl)
        where
          by : (b : Bool) → is_short lends on.announced ≡ b → Holds (cond b (Asked.stopped on (refusal 7 0 0)) on) (holding (cond b (stopped_by (refusal 7 0 0)) went) h.verdicts h.worked)
          by true e = kept_stopped F verdicts worked total left on after (refusal 7 0 0) (refusal 7 0 0) refl refl keeps_on
          by false e = record { keeps = keeps_on; unless = λ u. open_on e }

  -- By what is due next.
  head_goes_lem : (next : Due) → step R k.due l ≡ Ok next → Holds (Asked.if_long lends (Asked.goes_on k l next)) (holding (head_goes R lends s l next) h.verdicts h.worked)
  unfolding head_goes records_in announced went_on
  head_goes_lem Identifier e = went_on_lem Identifier e 0 s.records s.done (refl, refl, refl) refl
  head_goes_lem (Keyword n) e =
      let below = (ahead_on (Keyword n) e).0 in
      went_on_lem (Keyword n) e (low (n + 1)) s.records s.done (omega (arith, below), below, refl, refl) refl
  head_goes_lem Remarks e = went_on_lem Remarks e 37 s.records s.done (refl, refl, refl) refl
  head_goes_lem Remark e = went_on_lem Remark e 38 s.records s.done (refl, refl, refl) refl
  head_goes_lem (Record m) e =
      let some = ahead_on (Record m) e in
      let all : low m ≡ m = omega (arith, some.1, F.records) in
      went_long (Record m) e 39 (low m) 0 (refl, all, refl, some.0, omega arith) all
  head_goes_lem End e = went_long End e 39 0 0 (refl, refl, refl, refl) refl

  pub head_finishes : Holds (Asked.finishes R lends k) (holding (head_line R lends s l) h.verdicts h.worked)
  unfolding Asked.finishes Asked.after_line head_line head_next
  head_finishes =
      subst (λ (due : Due). Holds (Asked.after_line lends k l (step R k.due l)) (holding (head_next R lends s l (step R due l)) h.verdicts h.worked)) (sym (due_same F verdicts worked o))
      (by (step R k.due l) refl)
    where
      by : (m : Result Due Fault) → step R k.due l ≡ m → Holds (Asked.after_line lends k l m) (holding (head_next R lends s l m) h.verdicts h.worked)
      by (Ok next) e = head_goes_lem next e
      by (Err f) e =
          unfold stopped in stops_here F verdicts worked total left k h keeps o f.number f.field (subst Refuses e (refuses_with R k.due l))
