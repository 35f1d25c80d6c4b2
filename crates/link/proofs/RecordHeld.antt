-- The line of a record is finished: its verdict and what is worked stand behind the others, and the sums are those of one more; or it is refused.
-- Assumes nothing.
use Prim.Native.Nat.{ℕ, ◌+◌, ◌-◌, ◌*◌, ◌/◌, ◌≤◌, ◌<◌}
use native.Mathlib.Omega.{arith}
use mathlib.Core.Path.{◌≡◌, refl, sym, ap, subst, ◌∙◌}
use mathlib.Core.Bool.{Bool, true, false, cond}
use mathlib.Core.List.{List, [], ◌∷◌, ◌++◌, map, map-append, append-nil}
use lib.ListN.{length, take, set, get_or, length-append}
use borrow.Author.Tests.{lt-ltb}
use Rattle.rules.specs.declared.Due.{Due}
use Rattle.rules.specs.declared.Due.TheVariants.{Record}
use Rattle.rules.specs.declared.Verdict.{Verdict}
use Rattle.rules.specs.Text.{Text, parts, value}
use Rattle.rules.specs.Rules.{Rules}
use Rattle.rules.specs.Fields.{Qso, field_rules, qso_of}
use Rattle.rules.specs.Log.{conjunction, record_rules}
use Rattle.rules.specs.Judging.{verdict_of, verdict_number}
use Rattle.rules.specs.Judging.{verdicts as judged}
use Rattle.rules.specs.Reading.{refusal, RecordRule, breaks, record_rule, records_due, after_record, step}
use Rattle.rules.specs.Reading.{keeps as keepsAll}
use Rattle.rules.specs.Answers.{over}
use Rattle.rules.specs.Link.{Lent, worked_bytes, is_short, link_verdicts}
use Rattle.rules.specs.Link as Asked
use Rattle.rules.proofs.FieldLaws.{record_is}
use Rattle.rules.proofs.SessionLaws.{rules_more}
use Rattle.rules.proofs.Classes.{length_verdicts}
use Rattle.judge.specs.Count.{mode_place}
use Rattle.judge.specs.Narrow.{totals_in}
use Rattle.judge.specs.Sums.{verdict_in}
use Rattle.writer.specs.Written.{written}
use Rattle.std.specs.Prelude.{Ok}
use Rattle.session.specs.Entry.{kept_of, bytes_of, credited_from, record_of, has_place_for, said_of, told_line, with_bytes}
use Rattle.session.proofs.ComeLaws.{came_to}
use Rattle.session.proofs.StepLaws.{place_asked}
use Rattle.session.proofs.LineLaws.{Stores, line_said}
use Rattle.session.proofs.MoreLaws.{verdicts_more, bytes_more}
use Rattle.session.proofs.EntryLaws.{length_front}
use Rattle.session.proofs.BackLaws.{said_back, mode_told_lem}
use Rattle.link.specs.declared.Link.{Link}
use Rattle.link.specs.Link.{Holding, holding, with_record, record_told, record_line, lent_by}
use Rattle.link.specs.Keeping.{FitsLink, Keeps, worked_of}
use Rattle.link.proofs.TakenLaws.{record_broken, record_added}
use Rattle.link.proofs.LogGrows.{records_on, arguments_on, record_on_lem, no_argument_on, records_of, arguments_of, records_grow, arguments_grow}
use Rattle.link.proofs.SliceLaid.{over_front, over_more, over_byte}
use Rattle.link.proofs.SumsHeld.{sums_grow}
use Rattle.link.proofs.RatesHeld.{Declares}
use Rattle.link.proofs.DueLaws.{Staged, Ahead, staged_due, ahead_due}
use Rattle.link.proofs.HeldLaws.{lent, Open, Kept, count_next, line_none, verdicts_of, worked_of_lem, verdicts_long, worked_long, stops_here, rooms, lent_same}

module _ {R : Rules} (F : FitsLink R) (verdicts worked : List ℕ) (total left : ℕ) (k : Asked.Link) (h : Holding) (keeps : Keeps R k verdicts worked h) (o : Open F verdicts worked total left k h.link) (room : length k.finished < k.count) (m : ℕ) (due : k.due ≡ Record m) where
  abbrev lends : Lent
  lends = lent F verdicts worked

  abbrev Holds : Asked.Link → Holding → Type 0
  Holds = Kept F verdicts worked total left

  abbrev s : Link
  s = h.link

  abbrev l : Text
  l = k.begun

  abbrev qs : List Qso
  qs = records_of k

  abbrev n : ℕ
  n = length qs

  staged_here : Staged (Record m) s.stage s.records s.done n k.announced
  staged_here = subst (λ (d : Due). Staged d s.stage s.records s.done n k.announced) due o.log.staged

  many_verdicts : length (link_verdicts R k) ≡ n
  many_verdicts = verdicts_long F verdicts worked k

  many_bytes : length (worked_of R k) ≡ n * worked_bytes
  many_bytes = worked_long F verdicts worked k o.log.ruled

  done_is : s.done ≡ n
  done_is = staged_here.2

  -- It keeps them: there is a place for it.
  module _ (rule : record_rule R l ≡ keepsAll) where
    abbrev q : Qso
    q = qso_of (parts l)

    abbrev v : Verdict
    v = verdict_of R (credited_from R [] qs) q

    abbrev next : Asked.Link
    next = Asked.goes_on k l (records_due (m - 1))

    below : n < k.announced
    below = omega (arith, staged_here.3, staged_here.4)

    rooms_here : (n < length verdicts) × (n * worked_bytes + worked_bytes ≤ length worked)
    rooms_here =
        let room = rooms F verdicts worked k.announced o.log.fit in
        (omega (arith, below, room.0), omega (arith, below, room.1))

    same_lent : lent_by h ≡ lends
    same_lent = lent_same F verdicts worked k h keeps o.log.fit

    place : has_place_for s.done worked_bytes (length h.verdicts) (length h.worked) ≡ true
    place =
        (λ i. has_place_for (done_is i) worked_bytes (same_lent i).verdicts (same_lent i).worked)
        ∙ sym (place_asked n worked_bytes (length verdicts) (length worked) (omega arith) (omega arith) rooms_here.0)
        ∙ lt-ltb n (length worked / worked_bytes) (omega (arith, rooms_here.1))

    -- What is said of it.
    abbrev number : ℕ
    number = verdict_number (said_of R l n worked_bytes h.worked)

    stores : Stores R worked_bytes qs h.worked
    stores =
        record {
          wide = omega arith;
          narrow = omega arith;
          ruled = o.log.ruled;
          are = ap (take (n * worked_bytes)) keeps.worked_is ∙ over_front (worked_of R k) worked (n * worked_bytes) many_bytes ∙ worked_of_lem F verdicts worked k;
        }

    said : said_of R l n worked_bytes h.worked ≡ v
    said = line_said F.bytes stores l rule

    -- One record more.
    records_next : records_of next ≡ qs ++ (q ∷ [])
    records_next =
        records_grow k l (records_due (m - 1)) ∙ ap (λ (d : Due). qs ++ records_on d l) due ∙ ap (λ (ps : List Qso). qs ++ ps) (record_on_lem m l)

    arguments_next : arguments_of next ≡ arguments_of k
    arguments_next =
        arguments_grow k l (records_due (m - 1))
        ∙ ap (λ (d : Due). arguments_of k ++ arguments_on d l) due
        ∙ ap (λ (ts : List Text). arguments_of k ++ ts) (no_argument_on m l)
        ∙ append-nil (arguments_of k)

    announced_next : next.announced ≡ k.announced
    unfolding Asked.goes_on Asked.announced_by
    announced_next = ap (λ (d : Due). Asked.announced_by d (records_due (m - 1)) k.announced) due

    one_more : length (records_of next) ≡ n + 1
    one_more = ap length records_next ∙ length-append qs (q ∷ [])

    line_ruled : conjunction (field_rules R q) ≡ true
    line_ruled = (record_is R l rule).rules

    ruled_next : record_rules R (qs ++ (q ∷ [])) ≡ true
    ruled_next = rules_more R q qs o.log.ruled line_ruled

    -- Its verdict behind the others, and its bytes.
    verdicts_next : link_verdicts R k ++ (number ∷ []) ≡ link_verdicts R next
    verdicts_next =
        (λ i. verdicts_of F verdicts worked k i ++ (verdict_number (said i) ∷ []))
        ∙ sym (map-append verdict_number (judged R qs) (v ∷ []))
        ∙ ap (map verdict_number) (sym (verdicts_more R q qs))
        ∙ ap (λ (ps : List Qso). map verdict_number (judged R ps)) (sym records_next)
        ∙ sym (verdicts_of F verdicts worked next)

    abbrev front : Text
    front = take worked_bytes (kept_of R v.class q)

    front_long : length front ≡ worked_bytes
    front_long = length_front F.bytes q line_ruled worked_bytes (omega arith) v.class

    worked_next : worked_of R k ++ front ≡ worked_of R next
    worked_next =
        ap (λ (t : Text). t ++ front) (worked_of_lem F verdicts worked k)
        ∙ sym (bytes_more R q worked_bytes v qs (judged R qs) (length_verdicts R qs))
        ∙ ap (bytes_of R worked_bytes (qs ++ (q ∷ []))) (sym (verdicts_more R q qs))
        ∙ ap (λ (ps : List Qso). bytes_of R worked_bytes ps (judged R ps)) (sym records_next)
        ∙ sym (worked_of_lem F verdicts worked next)

    abbrev with : Link
    with = with_record s (value q.points) (get_or q.mode 0 0) number

    abbrev taken : Holding
    taken = holding with (set h.verdicts n number) (with_bytes R l n worked_bytes h.worked)

    line_taken : record_line R h l ≡ taken
    unfolding record_told told_line record_of
    line_taken =
        record_added R h l rule place
        ∙ (λ i. holding (record_told s (Ok (told_line R l (done_is i) worked_bytes h.worked))) (set h.verdicts (done_is i) (verdict_number (said_of R l (done_is i) worked_bytes h.worked))) (with_bytes R l (done_is i) worked_bytes h.worked))

    verdicts_written : set h.verdicts n number ≡ over (link_verdicts R next) verdicts
    verdicts_written =
        ap (λ (t : Text). set t n number) keeps.verdicts_are
        ∙ over_byte (link_verdicts R k) verdicts number n many_verdicts rooms_here.0
        ∙ ap (λ (t : Text). over t verdicts) verdicts_next

    worked_written : with_bytes R l n worked_bytes h.worked ≡ over (worked_of R next) worked
    unfolding with_bytes record_of
    worked_written =
        (λ i. written (keeps.worked_is i) (n * worked_bytes) (take worked_bytes (kept_of R (said i).class q)))
        ∙ over_more (worked_of R k) worked front (n * worked_bytes) many_bytes (omega (arith, rooms_here.1, front_long))
        ∙ ap (λ (t : Text). over t worked) worked_next

    within_next : (length (link_verdicts R next) ≤ next.announced) × (length (worked_of R next) ≤ next.announced * worked_bytes)
    within_next =
        let first = ap length (sym verdicts_next) ∙ length-append (link_verdicts R k) (number ∷ []) in
        let second = ap length (sym worked_next) ∙ length-append (worked_of R k) front in
        (omega (arith, first, many_verdicts, below, announced_next), omega (arith, second, many_bytes, front_long, below, announced_next))

    keeps_next : Keeps R next verdicts worked taken
    unfolding with_record Asked.goes_on
    keeps_next =
        record {
          refusal_is = keeps.refusal_is;
          verdicts_are = verdicts_written;
          worked_is = worked_written;
          verdicts_within = within_next.0;
          worked_within = within_next.1;
        }

    -- The state behind it.
    staged_next : Staged (records_due (m - 1)) s.stage s.records (s.done + 1) (length (records_of next)) next.announced
    staged_next =
        staged_due (m - 1) s.stage s.records (s.done + 1) (length (records_of next)) next.announced
        staged_here.0
        (omega (arith, staged_here.1, announced_next))
        (omega (arith, done_is, one_more))
        (omega (arith, one_more, announced_next, staged_here.3, staged_here.4))

    ahead_next_record : Ahead R (records_due (m - 1)) (length (arguments_of next))
    ahead_next_record =
        let now = subst (λ (d : Due). Ahead R d (length (arguments_of k))) due o.log.ahead in
        ahead_due R (m - 1) (length (arguments_of next)) (omega (arith, now.1)) (ap length arguments_next ∙ now.2)

    sums_next : totals_in with.points with.counts ≡ came_to R (records_of next)
    unfolding with_record
    sums_next =
        sums_grow F s.points s.counts qs o.log.sums q (value q.points) (mode_place (get_or q.mode 0 0)) (verdict_in number) ruled_next
        (omega (arith, length-append qs (q ∷ []), below, o.log.few)) refl (mode_told_lem q)
        (ap (λ (w : Verdict). verdict_in (verdict_number w)) said ∙ said_back R (credited_from R [] qs) q)
        ∙ ap (came_to R) (sym records_next)

    few_next : next.announced ≤ R.most_records
    few_next = omega (arith, announced_next, o.log.few)

    fit_next : is_short lends next.announced ≡ false
    fit_next = ap (is_short lends) announced_next ∙ o.log.fit

    open_next : Open F verdicts worked total left next with
    unfolding with_record Asked.goes_on
    open_next =
        record {
          bytes = count_next o.bytes room;
          line = line_none R;
          log = record {
            staged = staged_next;
            ahead = ahead_next_record;
            few = few_next;
            fit = fit_next;
            ruled = subst (λ (ps : List Qso). record_rules R ps ≡ true) (sym records_next) ruled_next;
            sums = sums_next;
            rates = subst (λ (ts : List Text). Declares R ts s.rated) (sym arguments_next) o.log.rates;
          };
        }

    record_taken : Holds (Asked.if_long lends next) (record_line R h l)
    unfolding Asked.if_long
    record_taken =
        subst (Holds (Asked.if_long lends next)) (sym line_taken)
        (subst (λ (b : Bool). Holds (cond b (Asked.stopped next (refusal 7 0 0)) next) taken) (sym fit_next)
        (record { keeps = keeps_next; unless = λ u. open_next }))

  pub record_finishes : Holds (Asked.finishes R lends k) (record_line R h l)
  unfolding Asked.finishes Asked.after_line step after_record
  record_finishes =
      subst (λ (d : Due). Holds (Asked.after_line lends k l (step R d l)) (record_line R h l)) (sym due) (by (record_rule R l) refl)
    where
      by : (r : RecordRule) → record_rule R l ≡ r → Holds (Asked.after_line lends k l (after_record m r)) (record_line R h l)
      by keepsAll e = record_taken e
      by (breaks field) e =
          subst (Holds (Asked.stopped k (refusal 5 (Asked.line_of k) field))) (sym (record_broken R h l field e)) (stops_here F verdicts worked total left k h keeps o 5 field refl)
