-- What W7 asks of the link, all of it: what `specs/LinkDemands.antt` states is proved, of any rules.
-- Assumes nothing.
use Prim.Native.Nat.{ℕ, suc, ◌+◌, ◌-◌, ◌*◌, ◌≤◌, ◌<◌}
use native.Mathlib.Omega.{arith}
use mathlib.Core.Path.{◌≡◌, refl, sym, ap, subst, ◌∙◌}
use mathlib.Core.Logic.{◌↔◌}
use mathlib.Core.Bool.{Bool, true, false, cond, ◌&&◌, ◌||◌}
use mathlib.Core.List.{List, [], ◌∷◌, ◌++◌, append-nil}
use lib.Dec.{ltb, eqb}
use lib.ListN.{length, take, drop, length-take, take-append-drop, length-drop}
use borrow.Author.Tests.{le-ltb, le-leb, eqb-false}
use Rattle.std.specs.Prelude.{Result, Ok, Err}
use Rattle.rules.specs.declared.Fault.{Fault}
use Rattle.rules.specs.declared.Refusal.{Refusal}
use Rattle.rules.specs.declared.Due.{Due}
use Rattle.rules.specs.declared.Due.TheVariants.{Identifier, Keyword, Remarks, Remark, Record, End}
use Rattle.rules.specs.Text.{Text, allowed, all}
use Rattle.rules.specs.Rules.{Rules}
use Rattle.rules.specs.Log.{Log, line_rule}
use Rattle.rules.specs.Judging.{totals_of_log, zero_totals}
use Rattle.rules.specs.Reading.{step, Reading, accepted, refused, refusal, at_rest, put, with_line, read}
use Rattle.rules.specs.Answers.{no_refusal, refusal_of_reading, judged, judge, judge_reading, judge_log, refusal_of_judgement, totals_of_judgement, numbers_of_judgement}
use Rattle.rules.specs.Link.{Finished, Link, opened, is_open, line_of, rest_of, stopped, Lent, worked_bytes, is_short, goes_on, if_long, after_line, finishes, holding, no_line_here, behind_return, in_line, of_line, placed, counted, taken, byte_in, asked, bytes_in, feed, fed_all, log_from, log_of, Closed, closed_by, closed_if, close, link_verdicts}
use Rattle.rules.specs.LinkDemands.{joined_all, CutAnywhere, by_line, Settled, announced_in, Suffice, fed, closing, SaysAs, AsJoined, RefusedStays, ThirteenAfter, SevenBefore, TheLink}
use Rattle.rules.proofs.Tests.{and_i, never, clash}
use Rattle.rules.proofs.Refusals.{Placed, rest_placed, of_step}
use Rattle.rules.proofs.WalkLaws.{no_log_lem}
use Rattle.rules.proofs.LinkLines.{read_on, put_all, put_refused, read_from, announced_from, IsLine, IsFront, from_none, from_end, announced_end, from_taken, from_refused, found_line, no_feed, no_such_byte, rest_return, from_held}
use Rattle.rules.proofs.LinkBytes.{record_lines, taken_of, Announces, Sound, Fit, none_short, refused_bytes, bytes_joined, After, reads, settled, lacked, after}
use Rattle.rules.proofs.LinkPlaced.{placed_rightly_lem, refused_at_last_lem}

-- # Wherever they were cut

-- A link that does not refuse has slices that suffice.
record Ready (lent : Lent) (k : Link) : Type 0 where
  pub fits : is_open k ≡ true → Fit lent k

module _ (lent : Lent) (k : Link) where
  ready_if_long : Ready lent (if_long lent k)
  unfolding if_long stopped
  ready_if_long = by (is_short lent k.announced) refl
    where
      by : (b : Bool) → is_short lent k.announced ≡ b → Ready lent (cond b (stopped k (refusal 7 0 0)) k)
      by true e = record { fits = λ o. never o }
      by false e = record { fits = λ o. e }

  ready_asked : Ready lent (asked lent k)
  unfolding asked
  ready_asked = by (is_open k) refl
    where
      by : (b : Bool) → is_open k ≡ b → Ready lent (cond b (if_long lent k) k)
      by true e = ready_if_long
      by false e = record { fits = λ o. clash o e }

  asked_ready : Ready lent k → asked lent k ≡ k
  unfolding asked if_long
  asked_ready r = by (is_open k) refl
    where
      by : (b : Bool) → is_open k ≡ b → cond b (if_long lent k) k ≡ k
      by true e = rw (r.fits e)
      by false e = refl

module _ (R : Rules) (lent : Lent) where
  either : (b : Bool) {i j : Link} → Ready lent i → Ready lent j → Ready lent (cond b i j)
  either true r q = r
  either false r q = q

  module _ (k : Link) (fit : Fit lent k) where
    ready_stopped : (r : Refusal) → Ready lent (stopped k r)
    unfolding stopped
    ready_stopped r = record { fits = λ o. fit }

    ready_none : Ready lent (no_line_here k)
    unfolding no_line_here
    ready_none = ready_stopped (refusal 2 (line_of k) 0)

    ready_held : (begun : Text) (returned : Bool) → Ready lent (holding k begun returned)
    unfolding holding
    ready_held begun returned = record { fits = λ o. fit }

    ready_finished : Ready lent (finishes R lent k)
    unfolding finishes after_line
    ready_finished = by (step R k.due k.begun)
      where
        by : (m : Result Due Fault) → Ready lent (after_line lent k k.begun m)
        by (Ok next) = ready_if_long lent (goes_on k k.begun next)
        by (Err e) = ready_stopped (refusal e.number (line_of k) e.field)

    ready_line : (b : ℕ) → Ready lent (of_line R lent k b)
    unfolding of_line behind_return in_line
    ready_line b =
        either k.returned
        (either (eqb b 10) ready_finished ready_none)
        (either (eqb b 13) (ready_held k.begun true) (either (allowed b && ltb (length k.begun) R.longest_line) (ready_held (k.begun ++ (b ∷ [])) false) ready_none))

    ready_placed : (due : Due) (b : ℕ) → Ready lent (placed R lent due k b)
    unfolding placed
    ready_placed Identifier b = ready_line b
    ready_placed (Keyword n) b = ready_line b
    ready_placed Remarks b = ready_line b
    ready_placed Remark b = ready_line b
    ready_placed (Record n) b = ready_line b
    ready_placed End b = ready_stopped (refusal 6 (line_of k) 0)

  ready_byte : (k : Link) (b : ℕ) → Ready lent k → Ready lent (byte_in R lent k b)
  unfolding byte_in taken counted
  ready_byte k b r = by (is_open k) refl
    where
      by : (o : Bool) → is_open k ≡ o → Ready lent (cond o (taken R lent k b) k)
      by true e =
          either (ltb k.count R.longest_log) (ready_placed (counted k) (r.fits e) k.due b) (ready_stopped k (r.fits e) (refusal 1 0 0))
      by false e = record { fits = λ o. clash o e }

  ready_bytes : (s : Text) (k : Link) → Ready lent k → Ready lent (bytes_in R lent k s)
  unfolding bytes_in
  ready_bytes [] k r = r
  ready_bytes (b ∷ s) k r = ready_bytes s (byte_in R lent k b) (ready_byte k b r)

  two_pieces : (k : Link) (s t : Text) → feed R lent (feed R lent k s) t ≡ feed R lent k (s ++ t)
  unfolding feed
  two_pieces k s t =
      ap (λ (j : Link). bytes_in R lent j t) (asked_ready lent (bytes_in R lent (asked lent k) s) (ready_bytes s (asked lent k) (ready_asked lent k)))
      ∙ sym (bytes_joined R lent (asked lent k) s t)

  fed_none : (k : Link) → Ready lent k → feed R lent k [] ≡ k
  unfolding feed bytes_in
  fed_none k r = asked_ready lent k r

  any_pieces : (ps : List Text) (k : Link) → Ready lent k → fed_all R lent k ps ≡ feed R lent k (joined_all ps)
  unfolding fed_all joined_all
  any_pieces [] k r = sym (fed_none k r)
  any_pieces (p ∷ ps) k r = any_pieces ps (feed R lent k p) (unfold feed in ready_bytes p (asked lent k) (ready_asked lent k)) ∙ two_pieces k p (joined_all ps)

  ready_opened : Ready lent opened
  unfolding opened
  ready_opened = record { fits = λ o. none_short lent }

  pub cut_anywhere_lem : CutAnywhere R lent
  cut_anywhere_lem = record { two = two_pieces; any = λ ps. any_pieces ps opened ready_opened }

-- # After a refusal

module _ (R : Rules) (k : Link) (e : is_open k ≡ false) where
  asked_refused : (lent : Lent) → asked lent k ≡ k
  asked_refused lent = asked_ready lent k (record { fits = λ o. clash o e })

  fed_refused : (lent : Lent) (s : Text) → feed R lent k s ≡ k
  unfolding feed
  fed_refused lent s = ap (λ (j : Link). bytes_in R lent j s) (asked_refused lent) ∙ refused_bytes R lent k s e

  abbrev repeated : Closed
  repeated = record { link = k; refusal = k.refusal; totals = zero_totals }

  closed_refused : (lent : Lent) → close R lent k ≡ repeated
  unfolding close closed_if
  closed_refused lent = ap (closed_if R) (asked_refused lent) ∙ rw e

  pub refused_stays_lem : RefusedStays R k
  refused_stays_lem = record { feeding = fed_refused; closing = closed_refused }

-- # The closing

-- The reader refuses at the end of the bytes by a number.
rest_refuses : (due : Due) (n : ℕ) (s : Text) (r : Refusal) → 1 ≤ n → at_rest due n s ≡ refused r → r.number ≡ 0 → ⊥
rest_refuses due n s r h e z =
    let p : Placed n (refused r) = subst (Placed n) e (rest_placed due n s h) in
    let most = p.2.0 in
    omega arith

module _ (R : Rules) (lent : Lent) (k : Link) where
  closed_ready : is_open k ≡ true → Fit lent k → close R lent k ≡ closed_by R k (at_rest k.due (line_of k) (rest_of k))
  closed_ready o f =
      let same = asked_ready lent k (record { fits = λ u. f }) in
      unfold close closed_if in rw (same, o)

  -- The closing answers number 0 only where it accepts, and then 13 is kept.
  thirteen_kept : (close R lent k).refusal.number ≡ 0 → (close R lent k).link.refusal ≡ refusal 13 0 0
  unfolding close closed_if closed_by stopped
  thirteen_kept = by (asked lent k)
    where
      on : (a : Link) (r : Reading) → at_rest a.due (line_of a) (rest_of a) ≡ r → (closed_by R a r).refusal.number ≡ 0 → (closed_by R a r).link.refusal ≡ refusal 13 0 0
      on a (accepted log) e z = refl
      on a (refused r) e z = absurd (rest_refuses a.due (line_of a) (rest_of a) r (omega arith) e z)

      either : (a : Link) (o : Bool) → is_open a ≡ o → (cond o (closed_by R a (at_rest a.due (line_of a) (rest_of a))) (record { link = a; refusal = a.refusal; totals = zero_totals })).refusal.number ≡ 0 → (cond o (closed_by R a (at_rest a.due (line_of a) (rest_of a))) (record { link = a; refusal = a.refusal; totals = zero_totals })).link.refusal ≡ refusal 13 0 0
      either a true e z = on a (at_rest a.due (line_of a) (rest_of a)) refl z
      either a false e z = absurd (eqb-false a.refusal.number 0 e z)

      by : (a : Link) → (closed_if R a).refusal.number ≡ 0 → (closed_if R a).link.refusal ≡ refusal 13 0 0
      by a z = either a (is_open a) refl z

  -- "7 .. before any byte is taken, when a later call, the closing too, lends too little for N"
  asked_short : is_open k ≡ true → is_short lent k.announced ≡ true → asked lent k ≡ stopped k (refusal 7 0 0)
  unfolding asked if_long
  asked_short o s = rw (o, s)

  seven_before_lem : is_open k ≡ true → is_short lent k.announced ≡ true → SevenBefore R lent k
  unfolding feed close closed_if stopped
  seven_before_lem o s =
      let a = asked_short o s in
      record {
        feeding = λ t. ap (λ (j : Link). (bytes_in R lent j t).refusal) a ∙ ap (λ (j : Link). j.refusal) (refused_bytes R lent (stopped k (refusal 7 0 0)) t refl);
        closing = ap (λ (j : Link). (closed_if R j).refusal) a;
      }

thirteen_of : (R : Rules) (c : Closed) → c.link.refusal ≡ refusal 13 0 0 → ThirteenAfter R c
thirteen_of R c e =
    let kept : is_open c.link ≡ false = ap (λ (r : Refusal). eqb r.number 0) e in
    record {
      feeding = λ lent s. ap (λ (j : Link). j.refusal) (fed_refused R c.link kept lent s) ∙ e;
      closing = λ lent. ap (λ (d : Closed). d.refusal) (closed_refused R c.link kept lent) ∙ e;
    }

-- # As for the joined bytes

-- What the lines make is what is read behind them, put behind their log.
put_accepted : (fs : List Finished) (log : Log) → put_all fs (accepted log) ≡ accepted (log_from fs log)
unfolding put_all log_from put
put_accepted [] log = refl
put_accepted (f ∷ fs) log = put_accepted fs (with_line f.due f.line log)

-- It has the records that were taken.
with_records_lem : (due : Due) (l : Text) (log : Log) → length (with_line due l log).records ≡ record_lines due + length log.records
unfolding with_line record_lines
with_records_lem Identifier l log = omega arith
with_records_lem (Keyword k) l log = omega arith
with_records_lem Remarks l log = omega arith
with_records_lem Remark l log = omega arith
with_records_lem (Record n) l log = omega arith
with_records_lem End l log = omega arith

records_taken : (fs : List Finished) (log : Log) → length (log_from fs log).records ≡ taken_of fs + length log.records
unfolding log_from taken_of
records_taken [] log = omega arith
records_taken (f ∷ fs) log =
    records_taken fs (with_line f.due f.line log) ∙ omega (arith, with_records_lem f.due f.line log)

-- A refusal that is kept is what judging answers to what is refused so.
refused_says : (R : Rules) (k : Link) (room : ℕ) → (k.refusal.number ≡ 0 → ⊥) → SaysAs R (record { link = k; refusal = k.refusal; totals = zero_totals }) (judge_reading R room (refused k.refusal))
unfolding judge_reading refusal_of_judgement totals_of_judgement
refused_says R k room n = record { refusal = refl; totals = refl; classes = λ z. absurd (n z) }

-- The closing of a state that does not refuse answers as judging does what is read.
module _ (R : Rules) (lent : Lent) (j : Link) (sound : Sound R j) (fit : Fit lent j) where
  abbrev at_last : Reading
  at_last = at_rest j.due (line_of j) (rest_of j)

  abbrev no_log : Log
  no_log = record { keywords = []; arguments = []; remarks = []; records = [] }

  -- At the end of the bytes the reader accepts only where nothing more is due, so that all N records were taken.
  accepted_last : (log : Log) → at_last ≡ accepted log → (taken_of j.finished ≡ j.announced) × (log ≡ no_log)
  unfolding at_rest
  accepted_last log e = by j.due (rest_of j) sound.announces e
    where
      by : (due : Due) (rest : Text) → Announces due (taken_of j.finished) j.announced → at_rest due (line_of j) rest ≡ accepted log → (taken_of j.finished ≡ j.announced) × (log ≡ no_log)
      by Identifier rest a e = no_log_lem e
      by (Keyword k) rest a e = no_log_lem e
      by Remarks rest a e = no_log_lem e
      by Remark rest a e = no_log_lem e
      by (Record m) [] a e = no_log_lem e
      by (Record m) (c ∷ rest) a e = no_log_lem e
      by End [] a e = (a, cc)
      by End (c ∷ rest) a e = no_log_lem e

  few_records : taken_of j.finished ≡ j.announced → ltb lent.verdicts (length (log_of j).records) ≡ false
  unfolding log_of is_short
  few_records e =
      let long : length (log_from j.finished no_log).records ≡ j.announced = omega (arith, records_taken j.finished no_log, e) in
      ap (ltb lent.verdicts) long
      ∙ or_first (ltb lent.verdicts j.announced) (ltb lent.worked (j.announced * worked_bytes)) fit
    where
      or_first : (a b : Bool) → (a || b) ≡ false → a ≡ false
      or_first true b e = e
      or_first false b e = refl

  judged_log : (log : Log) → at_last ≡ accepted log → judge_reading R lent.verdicts (put_all j.finished (accepted log)) ≡ judged (totals_of_log R (log_of j)) (link_verdicts R j)
  unfolding judge_reading judge_log log_of link_verdicts
  judged_log log e =
      let last = accepted_last log e in
      ap (λ (g : Log). judge_reading R lent.verdicts (put_all j.finished (accepted g))) last.1
      ∙ ap (judge_reading R lent.verdicts) (put_accepted j.finished no_log)
      ∙ rw (few_records last.0)

  closed_says : SaysAs R (closed_by R j at_last) (judge_reading R lent.verdicts (put_all j.finished at_last))
  unfolding closed_by stopped link_verdicts log_of no_refusal
  closed_says = by at_last refl
    where
      by : (a : Reading) → at_last ≡ a → SaysAs R (closed_by R j a) (judge_reading R lent.verdicts (put_all j.finished a))
      by (accepted log) e =
          subst (SaysAs R (closed_by R j (accepted log))) (sym (judged_log log e))
          (record { refusal = unfold refusal_of_judgement no_refusal in refl; totals = unfold totals_of_judgement in refl; classes = λ z. unfold numbers_of_judgement in refl })
      by (refused r) e =
          subst (λ (a : Reading). SaysAs R (closed_by R j (refused r)) (judge_reading R lent.verdicts a)) (sym (put_refused j.finished r))
          (refused_says R (stopped j r) lent.verdicts (λ z. rest_refuses j.due (line_of j) (rest_of j) r (omega arith) e z))

-- A link that was opened reads all that comes.
sound_opened : (R : Rules) → Sound R opened
unfolding opened line_rule taken_of all
sound_opened R =
    record {
      front = and_i (le-leb 0 R.longest_line (omega arith)) refl;
      announces = (refl, refl);
      at_end = λ d. refl;
    }

module _ (R : Rules) where
  read_opened : (s : Text) → read_from R opened s ≡ by_line R s
  unfolding read_from opened read_on put_all
  read_opened s = refl

  announced_opened : (s : Text) → announced_from R opened s ≡ announced_in R s
  unfolding announced_from opened
  announced_opened s = refl

  announced_whole : (s : Text) → announced_from R opened (s ++ []) ≡ announced_in R s
  announced_whole s = ap (announced_from R opened) (append-nil s) ∙ announced_opened s

  not_lacked : (lent : Lent) (s : Text) {A : Type 0} → Suffice lent (announced_in R s) → ((t : Text) → is_short lent (announced_from R opened (s ++ t)) ≡ true) → A
  not_lacked lent s enough e = clash (e []) (ap (is_short lent) (announced_whole s) ∙ enough)

  settled_opened : (s : Text) (r : Refusal) → ((t : Text) → read_from R opened (s ++ t) ≡ refused r) → Settled R s r
  settled_opened s r e t = sym (read_opened (s ++ t)) ∙ e t

  opened_settled : (s : Text) (r : Refusal) → Settled R s r → (t : Text) → read_from R opened (s ++ t) ≡ refused r
  opened_settled s r e t = read_opened (s ++ t) ∙ e t

  read_short : (s : Text) → length s ≤ R.longest_log → read R s ≡ by_line R s
  unfolding read
  read_short s h = rw (le-ltb R.longest_log (length s) h)

module _ (R : Rules) (lent : Lent) where
  fed_opened : (s : Text) → fed R lent s ≡ bytes_in R lent opened s
  unfolding feed
  fed_opened s = ap (λ (k : Link). bytes_in R lent k s) (asked_ready lent opened (ready_opened R lent))

  after_opened : (s : Text) → length s ≤ R.longest_log → After R lent opened s (fed R lent s)
  unfolding opened
  after_opened s h =
      subst (After R lent opened s) (sym (fed_opened s)) (after R lent s opened refl (sound_opened R) (none_short lent) (omega (arith, h)))

  -- # A log that is not too long

  module _ (s : Text) (h : length s ≤ R.longest_log) (enough : Suffice lent (announced_in R s)) where
    whole_read : (r : Reading) → read_from R opened (s ++ []) ≡ r → read R s ≡ r
    whole_read r e = read_short R s h ∙ sym (read_opened R s) ∙ ap (read_from R opened) (sym (append-nil s)) ∙ e

    judged_as : SaysAs R (closing R lent s) (judge R lent.verdicts s)
    unfolding judge
    judged_as = by (fed R lent s) (after_opened s h)
      where
        by : (j : Link) → After R lent opened s j → SaysAs R (close R lent j) (judge_reading R lent.verdicts (read R s))
        by j (reads o sound fit count read announced) =
            let told = whole_read (put_all j.finished (at_rest j.due (line_of j) (rest_of j))) (read [] ∙ from_end R j sound.front) in
            rw (told, closed_ready R lent j o fit) (closed_says R lent j sound fit)
        by j (settled o read announced) =
            rw (whole_read (refused j.refusal) (read []), closed_refused R j o lent) (refused_says R j lent.verdicts (eqb-false j.refusal.number 0 o))
        by j (lacked e announced) = not_lacked R lent s enough announced

-- # What is not settled

-- A refusal by another reading is another refusal.
told_once : {r q : Refusal} → refused r ≡ refused q → r ≡ q
unfolding refusal_of_reading
told_once e = ap refusal_of_reading e

-- No line is refused with 2.
abbrev NotTwo : Result Due Fault → Type 0
NotTwo (Ok next) = Unit {0}
NotTwo (Err e) = e.number ≡ 2 → ⊥

data DueIs (due : Due) : Type 0 where
  is_end : due ≡ End → DueIs due
  is_line : IsLine due → DueIs due

due_is : (due : Due) → DueIs due
unfolding at_rest
due_is Identifier = is_line (λ n c s. refl)
due_is (Keyword k) = is_line (λ n c s. refl)
due_is Remarks = is_line (λ n c s. refl)
due_is Remark = is_line (λ n c s. refl)
due_is (Record m) = is_line (λ n c s. refl)
due_is End = is_end refl

module _ (R : Rules) where
  not_two : (due : Due) (l : Text) → NotTwo (step R due l)
  not_two due l =
      of_step R NotTwo
      (record {
        keyword = λ k. tt;
        remarks = tt;
        remark = tt;
        records = λ n. tt;
        three = λ e. omega arith;
        four = λ e. omega arith;
        five = λ field h e. omega arith;
        six = λ e. omega arith;
      })
      due l

  -- Nothing more is due, and nothing more came: the log is accepted.
  accepted_here : (k : Link) (r : Refusal) → IsFront R k → k.due ≡ End → rest_of k ≡ [] → read_from R k [] ≡ refused r → ⊥
  unfolding at_rest
  accepted_here k r front d e told =
      let last : at_rest k.due (line_of k) (rest_of k) ≡ accepted (record { keywords = []; arguments = []; remarks = []; records = [] }) = rw (d, e) in
      no_log_lem (sym told ∙ from_end R k front ∙ ap (put_all k.finished) last ∙ put_accepted k.finished (record { keywords = []; arguments = []; remarks = []; records = [] }))

  -- A byte that no line has, of which 2 would be told at the line that is due.
  two_here : (k : Link) → IsFront R k → IsLine k.due → read_from R k (1 ∷ []) ≡ refused (refusal 2 (line_of k) 0)
  two_here k front line = by k.returned refl
    where
      by : (b : Bool) → k.returned ≡ b → read_from R k (1 ∷ []) ≡ refused (refusal 2 (line_of k) 0)
      by true e = from_none R k 1 [] (no_feed R k front 1 [] e refl) line
      by false e = from_none R k 1 [] (no_such_byte R k front 1 [] e refl refl) line

  -- Behind a CR nothing is settled: the line may yet end, and then be refused by another number, or another line be refused, or none.
  unsettled_returned : (k : Link) (r : Refusal) → IsFront R k → IsLine k.due → k.returned ≡ true → ((t : Text) → read_from R k t ≡ refused r) → ⊥
  unfolding goes_on line_rule all
  unsettled_returned k r front line e told = by (step R k.due k.begun) refl
    where
      two : r ≡ refusal 2 (line_of k) 0
      two = told_once (sym (told (1 ∷ [])) ∙ two_here k front line)

      later : (next : Due) → step R k.due k.begun ≡ Ok next → (t : Text) → read_from R (goes_on k k.begun next) t ≡ refused r
      later next g t = sym (from_taken R k t (found_line R k front t e) next g) ∙ told (10 ∷ t)

      fresh : (next : Due) → IsFront R (goes_on k k.begun next)
      fresh next = and_i (le-leb 0 R.longest_line (omega arith)) refl

      after_line_lem : (next : Due) → step R k.due k.begun ≡ Ok next → DueIs next → ⊥
      after_line_lem next g (is_end d) = accepted_here (goes_on k k.begun next) r (fresh next) d refl (later next g [])
      after_line_lem next g (is_line d) =
          let other = told_once (sym (later next g (1 ∷ [])) ∙ two_here (goes_on k k.begun next) (fresh next) d) in
          let lines : line_of k ≡ suc (length k.finished) + 1 = ap (λ (q : Refusal). q.line) (sym two ∙ other) in
          omega arith

      by : (m : Result Due Fault) → step R k.due k.begun ≡ m → ⊥
      by (Ok next) g = after_line_lem next g (due_is next)
      by (Err f) g =
          let here = told_once (sym (told (10 ∷ [])) ∙ from_refused R k [] (found_line R k front [] e) f.number f.field g) in
          let same : f.number ≡ 2 = ap (λ (q : Refusal). q.number) (sym here ∙ two) in
          (subst NotTwo g (not_two k.due k.begun)) same

  unsettled : (k : Link) (r : Refusal) → Sound R k → ((t : Text) → read_from R k t ≡ refused r) → ⊥
  unfolding holding
  unsettled k r sound told = by (due_is k.due)
    where
      front : IsFront R k
      front = sound.front

      line : IsLine k.due → (b : Bool) → k.returned ≡ b → ⊥
      line d true e = unsettled_returned k r front d e told
      line d false e =
          unsettled_returned (holding k k.begun true) r front d refl
          (λ t. sym (from_held R k k.begun true (13 ∷ t) t (rest_return R k t e)) ∙ told (13 ∷ t))

      by : DueIs k.due → ⊥
      by (is_end d) = accepted_here k r front d (sound.at_end d) (told [])
      by (is_line d) = line d k.returned refl

-- # While bytes come, and a log that is too long

module _ (R : Rules) (lent : Lent) where
  module _ (s : Text) (h : length s ≤ R.longest_log) where
    told_settled : Suffice lent (announced_in R s) → (r : Refusal) → ((is_open (fed R lent s) ≡ false) × ((fed R lent s).refusal ≡ r)) ↔ Settled R s r
    told_settled enough r = by (fed R lent s) (after_opened R lent s h)
      where
        by : (j : Link) → After R lent opened s j → ((is_open j ≡ false) × (j.refusal ≡ r)) ↔ Settled R s r
        by j (reads o sound fit count read announced) = (
          λ p. clash o p.0,
          λ g. absurd (unsettled R j r sound (λ t. sym (read t) ∙ opened_settled R s r g t)),
        )
        by j (settled o read announced) = (
          λ p. settled_opened R s r (λ t. read t ∙ ap refused p.1),
          λ g. (o, told_once (sym (read []) ∙ opened_settled R s r g [])),
        )
        by j (lacked e announced) = not_lacked R lent s enough announced

  -- What the closing answers of a refusal that came in front of some bytes.
  closed_kept : (j : Link) (t : Text) → is_open j ≡ false → (close R lent (bytes_in R lent j t)).refusal ≡ j.refusal
  closed_kept j t o =
      ap (λ (k : Link). (close R lent k).refusal) (refused_bytes R lent j t o) ∙ ap (λ (c : Closed). c.refusal) (closed_refused R j o lent)

  -- The 65,536th byte.
  one_told : (j : Link) (b : ℕ) (t : Text) → is_open j ≡ true → R.longest_log ≤ j.count → (close R lent (bytes_in R lent j (b ∷ t))).refusal ≡ refusal 1 0 0
  unfolding bytes_in byte_in taken stopped
  one_told j b t o h =
      let full : byte_in R lent j b ≡ stopped j (refusal 1 0 0) = rw (o, le-ltb j.count R.longest_log h) in
      ap (λ (k : Link). (close R lent (bytes_in R lent k t)).refusal) full ∙ closed_kept (stopped j (refusal 1 0 0)) t refl

  module _ (s : Text) where
    abbrev front : Text
    front = take R.longest_log s

    abbrev beyond : Text
    beyond = drop R.longest_log s

    front_short : length front ≤ R.longest_log
    front_short = omega (arith, length-take R.longest_log s)

    fed_front : closing R lent s ≡ close R lent (bytes_in R lent (fed R lent front) beyond)
    fed_front =
        ap (close R lent) (fed_opened R lent s
        ∙ ap (bytes_in R lent opened) (sym (take-append-drop R.longest_log s))
        ∙ bytes_joined R lent opened front beyond
        ∙ ap (λ (k : Link). bytes_in R lent k beyond) (sym (fed_opened R lent front)))

    closed_behind : (j : Link) → fed R lent front ≡ j → (closing R lent s).refusal ≡ (close R lent (bytes_in R lent j beyond)).refusal
    closed_behind j e = ap (λ (c : Closed). c.refusal) fed_front ∙ ap (λ (k : Link). (close R lent (bytes_in R lent k beyond)).refusal) e

    too_short_lem : is_short lent (announced_in R front) ≡ true → (closing R lent s).refusal ≡ refusal 7 0 0
    too_short_lem short = by (fed R lent front) refl (after_opened R lent front front_short)
      where
        by : (j : Link) → fed R lent front ≡ j → After R lent opened front j → (closing R lent s).refusal ≡ refusal 7 0 0
        by j is (reads o sound fit count read announced) =
            clash short (ap (is_short lent) (sym (announced_whole R front) ∙ announced [] ∙ announced_end R j sound.front) ∙ fit)
        by j is (settled o read announced) =
            clash short (ap (is_short lent) (sym (announced_whole R front)) ∙ announced [])
        by j is (lacked e announced) =
            closed_behind j is ∙ closed_kept j beyond (ap (λ (r : Refusal). eqb r.number 0) e) ∙ e

    too_long_lem : R.longest_log < length s → Suffice lent (announced_in R front) → ((r : Refusal) → Settled R front r → (closing R lent s).refusal ≡ r) × (((r : Refusal) → Settled R front r → ⊥) → (closing R lent s).refusal ≡ refusal 1 0 0)
    too_long_lem long enough = by (fed R lent front) refl (after_opened R lent front front_short)
      where
        more : (j : Link) (t : Text) → length t ≡ length s - R.longest_log → is_open j ≡ true → R.longest_log ≤ j.count → (close R lent (bytes_in R lent j t)).refusal ≡ refusal 1 0 0
        more j [] e o h = absurd (omega (arith, e, long))
        more j (b ∷ t) e o h = one_told j b t o h

        by : (j : Link) → fed R lent front ≡ j → After R lent opened front j → ((r : Refusal) → Settled R front r → (closing R lent s).refusal ≡ r) × (((r : Refusal) → Settled R front r → ⊥) → (closing R lent s).refusal ≡ refusal 1 0 0)
        by j is (reads o sound fit count read announced) =
            let full : R.longest_log ≤ j.count = omega (arith, count, length-take R.longest_log s, long) in (
              λ r g. absurd (unsettled R j r sound (λ t. sym (read t) ∙ opened_settled R front r g t)),
              λ n. closed_behind j is ∙ more j beyond (length-drop R.longest_log s) o full,
            )
        by j is (settled o read announced) = (
          λ r g. closed_behind j is ∙ closed_kept j beyond o ∙ told_once (sym (read []) ∙ opened_settled R front r g []),
          λ n. absurd (n j.refusal (settled_opened R front j.refusal read)),
        )
        by j is (lacked e announced) = not_lacked R lent front enough announced

    as_joined_lem : AsJoined R lent s
    as_joined_lem = record { judges = judged_as R lent s; too_long = too_long_lem; too_short = too_short_lem }

-- # All of it

pub the_link : (R : Rules) → TheLink R
the_link R =
    record {
      cut_anywhere = cut_anywhere_lem R;
      as_joined = as_joined_lem R;
      told_when_settled = λ lent s h enough r. told_settled R lent s h enough r;
      refused_stays = refused_stays_lem R;
      thirteen_after = λ lent k z. thirteen_of R (close R lent k) (thirteen_kept R lent k z);
      seven_before = seven_before_lem R;
      placed_rightly = placed_rightly_lem R;
      refused_at_last = refused_at_last_lem R;
    }
