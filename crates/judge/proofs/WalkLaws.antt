-- The walk over the records: where it begins, one record more, and where it ends.
-- Assumes nothing.
use Prim.Native.Nat.{ℕ, zero, suc, ◌+◌, ◌-◌, ◌≤◌, ◌<◌}
use native.Mathlib.Omega.{arith}
use native.Mathlib.Nat.{add-zero}
use native.Mathlib.Numerals.{add-one}
use mathlib.Core.Path.{◌≡◌, refl, sym, ap, ◌∙◌}
use mathlib.Core.Bool.{Bool, true, false, ◌&&◌}
use mathlib.Core.List.{List, [], ◌∷◌, ◌++◌, map, append_assoc}
use lib.ListN.{length, take, drop, get_or, set, replicate, length-map, length-set}
use lib.Seq.{take-suc, drop-cons, drop-drop, get_or-take, get_or-drop, set_at, length-take-le, take-length}
use Rattle.rules.specs.declared.Class.TheVariants.{Credited}
use Rattle.rules.specs.declared.Verdict.{Verdict}
use Rattle.rules.specs.declared.Totals.{Totals}
use Rattle.rules.specs.Text.{Text, semicolon, value}
use Rattle.rules.specs.Rules.{Rules}
use Rattle.rules.specs.Fields.{Qso, field_rules}
use Rattle.rules.specs.Log.{conjunction, record_rules}
use Rattle.rules.specs.Judging.{is, verdict_of, credited_after, verdicts_after, verdicts, verdict_number, zero_modes, zero_totals}
use Rattle.rules.specs.Answers.{over}
use Rattle.rules.proofs.Tests.{and_l, and_r}
use Rattle.rules.proofs.Classes.{length_verdicts}
use Rattle.reader.specs.declared.Contact.{Contact}
use Rattle.reader.specs.Contact.{contact_at, behind, contacts_at, Holds}
use Rattle.judge.specs.declared.Kept.{Kept}
use Rattle.judge.specs.declared.Noted.{Noted}
use Rattle.judge.specs.declared.Step.{Step}
use Rattle.judge.specs.Bounds.{most_worth, Counts, Countable}
use Rattle.judge.specs.declared.Tally.{Tally}
use Rattle.judge.specs.Count.{mode_of, modes_in, modes_after, no_tally, tallied, add_record, add_records}
use Rattle.judge.specs.Parts.{kept_texts, kept_numbers, Lying}
use Rattle.judge.specs.Memory.{Memory, memory, Remembers}
use Rattle.judge.specs.Step.{Told, Stays, Ready, Judges, Steps}
use Rattle.judge.specs.Weigh.{records_of, numbers_of, Listed, Weighable, Weighs}
use Rattle.judge.proofs.CountLaws.{worth_most, brings, counts_more_lem, counts_fewer}
use Rattle.judge.proofs.ModeLaws.{place_most, grown, as_long}
use Rattle.judge.proofs.ToldLaws.{worth_most as points-most}
use Rattle.judge.proofs.RememberLaws.{nothing_kept}

-- # The places that are noted

-- From an index on stands this place of each of so many records, the first of which begins at a place of the log.
abbrev Noting : Rules → Text → (Contact → ℕ) → ℕ → ℕ → List ℕ → ℕ → Type 0
Noting R s place at k list i = take k (drop i list) ≡ map place (contacts_at R s at k)

module _ (R : Rules) (s : Text) (place : Contact → ℕ) (list : List ℕ) where
  noting_begins : (first n k : ℕ) → n ≡ k → Listed R s first n place list → Noting R s place first k list 0
  noting_begins first n k e l =
      sym (ap (λ (m : ℕ). take m list) e) ∙ l.places ∙ ap (λ (m : ℕ). map place (contacts_at R s first m)) e

  module _ (at k i : ℕ) (h : Noting R s place at (suc k) list i) where
    noted_first : get_or list i 0 ≡ place (contact_at R s at)
    unfolding contacts_at
    noted_first =
        ap (λ (n : ℕ). get_or list n 0) (sym (add-zero i))
        ∙ sym (get_or-drop i list 0 0)
        ∙ sym (get_or-take (suc k) (drop i list) 0 0 (omega arith))
        ∙ ap (λ (l : List ℕ). get_or l 0 0) h

    noted_rest : i < length list → Noting R s place (behind (contact_at R s at)) k list (i + 1)
    unfolding contacts_at
    noted_rest g =
        ap (λ (n : ℕ). take k (drop n list)) (add-one i)
        ∙ ap (drop 1) (sym (ap (take (suc k)) (drop-cons list i 0 g)) ∙ h)

-- What changes in front of an index leaves what stands behind it.
noting_kept : (R : Rules) (s : Text) (place : Contact → ℕ) (at k m i : ℕ) (list list' : List ℕ) → m ≤ i → drop (m + 1) list' ≡ drop (m + 1) list → Noting R s place at k list (i + 1) → Noting R s place at k list' (i + 1)
noting_kept R s place at k m i list list' h e n =
    let there : m + 1 + (i - m) ≡ i + 1 = omega arith in
    let same : drop (i + 1) list' ≡ drop (i + 1) list =
    ap (λ (x : ℕ). drop x list') (sym there)
    ∙ sym (drop-drop (i - m) (m + 1) list')
    ∙ ap (drop (i - m)) e
    ∙ drop-drop (i - m) (m + 1) list
    ∙ ap (λ (x : ℕ). drop x list) there in
    ap (take k) same ∙ n

-- # The slice

length_numbers : (R : Rules) (qs : List Qso) → length (numbers_of R qs) ≡ length qs
length_numbers R qs = length-map (verdicts R qs) verdict_number ∙ length_verdicts R qs

module _ (numbers slice : List ℕ) where
  abbrev pub written : ℕ → List ℕ
  written i = take i numbers ++ drop i slice

  written_more : (i : ℕ) → i < length numbers → i < length slice → {out : List ℕ} {n : ℕ} → out ≡ written i → n ≡ get_or numbers i 0 → set out i n ≡ written (i + 1)
  written_more i h k e f =
      rw (e, f, drop-cons slice i 0 k, add-one i, take-suc numbers i 0 h)
      (set_at (take i numbers) (get_or slice i 0) (drop (suc i) slice) (get_or numbers i 0) i (length-take-le i numbers (omega arith))
      ∙ sym (append_assoc (take i numbers) (get_or numbers i 0 ∷ []) (drop (suc i) slice)))

  written_all : (i : ℕ) → i ≡ length numbers → written i ≡ over numbers slice
  unfolding over
  written_all i e = rw (e, take-length numbers)

-- # The walk

-- After so many records, at the place of the next: the log holds the rest, their places are noted, what is kept serves for the credited ones, and
-- what all the records come to is what is had yet, and the rest.
pub record Going (R : Rules) (s : Text) (qs : List Qso) (i at : ℕ) (credited rest : List Qso) (m : Memory) (t : Totals) (calls exchanges points pointsends : List ℕ) : Type 0 where
  pub held : Holds R s at rest
  pub rules : record_rules R rest ≡ true
  pub remembers : Remembers R m credited
  pub left : i + length rest ≡ length qs
  pub totals : add_records zero_totals qs (verdicts R qs) ≡ add_records t rest (verdicts_after R credited rest)
  pub numbers : drop i (numbers_of R qs) ≡ map verdict_number (verdicts_after R credited rest)
  pub counts : Counts R i t
  pub calls_noted : Noting R s (λ c. c.call) at (length rest) calls i
  pub exchanges_noted : Noting R s (λ c. c.exchange) at (length rest) exchanges i
  pub points_noted : Noting R s (λ c. c.points) at (length rest) points i
  pub ends_noted : Noting R s (λ c. c.pointsend) at (length rest) pointsends i

-- One record more.
module _ (R : Rules) (s : Text) (qs : List Qso) (i at : ℕ) (credited : List Qso) (q : Qso) (rest : List Qso) (m : Memory) (t : Totals) (calls exchanges points pointsends : List ℕ) (g : Going R s qs i at credited (q ∷ rest) m t calls exchanges points pointsends) where
  rules_first : conjunction (field_rules R q) ≡ true
  unfolding record_rules
  rules_first = and_l (conjunction (field_rules R q)) (record_rules R rest) g.rules

  rules_rest : record_rules R rest ≡ true
  unfolding record_rules
  rules_rest = and_r (conjunction (field_rules R q)) (record_rules R rest) g.rules

  module _ {p : Noted} (ec : p.call ≡ get_or calls i 0) (ex : p.exchange ≡ get_or exchanges i 0) (ep : p.points ≡ get_or points i 0) (ee : p.pointsend ≡ get_or pointsends i 0) where
    told_next : Told R s p q
    told_next =
        record {
          at = at;
          rest = rest;
          held = g.held;
          rules = rules_first;
          call = ec ∙ noted_first R s (λ c. c.call) calls at (length rest) i g.calls_noted;
          exchange = ex ∙ noted_first R s (λ c. c.exchange) exchanges at (length rest) i g.exchanges_noted;
          points = ep ∙ noted_first R s (λ c. c.points) points at (length rest) i g.points_noted;
          pointsend = ee ∙ noted_first R s (λ c. c.pointsend) pointsends at (length rest) i g.ends_noted;
        }

    abbrev v : Verdict
    v = verdict_of R credited q

    module _ {r : Step} {m' : Memory} (j : Judges R q credited r m') where
      brought : r.worth ≤ most_worth R
      brought = omega (arith, j.worth, worth_most (is Credited v.class) (value q.points), points-most told_next)

      -- A record that is not credited bears no mark.
      unmarked : (mark : Verdict → Bool) → ((b : Bool) → is Credited v.class ≡ false → mark v ≡ false) → is Credited r.verdict.class ≡ false → mark r.verdict ≡ false
      unmarked mark f e = ap mark j.verdict ∙ f true (ap (λ (w : Verdict). is Credited w.class) (sym j.verdict) ∙ e)

      and_none : {a : Bool} (b : Bool) → a ≡ false → (a && b) ≡ false
      and_none b e = rw e

      -- The mode of a credited one is one of the eleven.
      placed : is Credited r.verdict.class ≡ true → r.mode < 11
      unfolding mode_of
      placed e = rw (j.mode (ap (λ (w : Verdict). is Credited w.class) (sym j.verdict) ∙ e)) (place_most (get_or q.mode 0 semicolon))

      countable_next : {c : Tally} {modes : List ℕ} → t ≡ tallied c modes → length modes ≡ 11 → ((k : ℕ) → get_or modes k 0 ≤ i) → i < R.most_records → Countable R c modes r.worth r.mode r.verdict
      unfolding verdict_of
      countable_next e l f h =
          record {
            n = i;
            few = rw e at g.counts;
            long = l;
            few_modes = f;
            room = h;
            small = brought;
            place = placed;
            exchange = unmarked (λ w. w.exchange) (λ b. and_none _);
            square = unmarked (λ w. w.square) (λ b. and_none _);
            country = unmarked (λ w. w.country) (λ b. and_none _);
          }

      number_next : verdict_number r.verdict ≡ get_or (numbers_of R qs) i 0
      unfolding verdicts_after
      number_next =
          ap verdict_number j.verdict
          ∙ ap (λ (x : List ℕ). get_or x 0 0) (sym g.numbers)
          ∙ get_or-drop i (numbers_of R qs) 0 0
          ∙ ap (λ (x : ℕ). get_or (numbers_of R qs) x 0) (add-zero i)

      sums_next : {t' : Totals} → t' ≡ add_record t r.worth r.mode r.verdict → t' ≡ add_record t (value q.points) (mode_of q) v
      sums_next e = e ∙ (λ x. add_record t (j.worth x) r.mode (j.verdict x)) ∙ brings t (value q.points) (mode_of q) v j.mode

      goes_on_lem : {t' : Totals} {calls' exchanges' : List ℕ} (a b : ℕ) →
          t' ≡ add_record t r.worth r.mode r.verdict →
          i < length calls →
          i < length exchanges →
          i < length points →
          i < length pointsends →
          a ≤ i →
          b ≤ i →
          drop (a + 1) calls' ≡ drop (a + 1) calls →
          drop (b + 1) exchanges' ≡ drop (b + 1) exchanges →
          Going R s qs (i + 1) (behind (contact_at R s at)) (credited_after v.class q credited) rest m' t' calls' exchanges' points pointsends
      unfolding add_records verdicts_after
      goes_on_lem {t'} {calls'} {exchanges'} a b e hc hx hp he ha hb rc rx =
          let sums = sums_next e in
          record {
            held = g.held.1;
            rules = rules_rest;
            remembers = j.remembers;
            left = omega (arith, g.left);
            totals = g.totals ∙ ap (λ (x : Totals). add_records x rest (verdicts_after R (credited_after v.class q credited) rest)) (sym sums);
            numbers = sym (drop-drop 1 i (numbers_of R qs)) ∙ ap (drop 1) g.numbers;
            counts = rw sums (counts_more_lem R i t (value q.points) (mode_of q) v g.counts (points-most told_next));
            calls_noted = noting_kept R s (λ c. c.call) (behind (contact_at R s at)) (length rest) a i calls calls' ha rc (noted_rest R s (λ c. c.call) calls at (length rest) i g.calls_noted hc);
            exchanges_noted = noting_kept R s (λ c. c.exchange) (behind (contact_at R s at)) (length rest) b i exchanges exchanges' hb rx (noted_rest R s (λ c. c.exchange) exchanges at (length rest) i g.exchanges_noted hx);
            points_noted = noted_rest R s (λ c. c.points) points at (length rest) i g.points_noted hp;
            ends_noted = noted_rest R s (λ c. c.pointsend) pointsends at (length rest) i g.ends_noted he;
          }

-- # The loop

-- What holds whenever the next record is looked at.
pub record Walks (R : Rules) (s : Text) (n : ℕ) (slice out calls exchanges points pointsends callKeys exchangeKeys squares : List ℕ) (kept : Kept) (c : Tally) (modes : List ℕ) (i : ℕ) : Type 0 where
  pub at : ℕ
  pub credited : List Qso
  pub rest : List Qso
  pub going : Going R s (records_of R s) i at credited rest (memory s kept calls callKeys exchanges exchangeKeys squares) (tallied c modes) calls exchanges points pointsends
  pub modes_long : length modes ≡ 11
  pub few_modes : (k : ℕ) → get_or modes k 0 ≤ i
  pub within : i ≤ n
  pub told : out ≡ written (numbers_of R (records_of R s)) slice i
  pub size : length out ≡ length slice
  pub stays : Stays s kept calls callKeys exchanges exchangeKeys squares
  pub few_calls : kept.calls ≤ i
  pub few_exchanges : kept.exchanges ≤ i
  pub few_squares : kept.squares ≤ i
  pub calls_long : n ≤ length calls
  pub exchanges_long : n ≤ length exchanges
  pub points_long : n ≤ length points
  pub ends_long : n ≤ length pointsends
  pub call_keys_long : length callKeys ≡ R.most_records + 1
  pub exchange_keys_long : length exchangeKeys ≡ R.most_records + 1
  pub squares_long : length squares ≡ R.most_records + 1

none_yet : (n k : ℕ) → get_or (replicate n 0) k 0 ≤ 0
none_yet zero k = omega arith
none_yet (suc n) zero = omega arith
none_yet (suc n) (suc k) = none_yet n k

none_lie : (s : Text) {places keys : List ℕ} → 0 < length keys → Lying s places keys 0
none_lie s h = record { many_places = omega arith; many_keys = h; inside = λ k l. absurd (omega arith) }

module _ {R : Rules} {s : Text} {n : ℕ} {slice calls₀ exchanges₀ points pointsends : List ℕ} (w : Weighable R s n slice calls₀ exchanges₀ points pointsends) where
  pub walks_begin : {callKeys exchangeKeys squares modes : List ℕ} {c : Tally} →
      c ≡ no_tally →
      modes ≡ replicate 11 0 →
      length callKeys ≡ R.most_records + 1 →
      length exchangeKeys ≡ R.most_records + 1 →
      length squares ≡ R.most_records + 1 →
      Walks R s n slice slice calls₀ exchanges₀ points pointsends callKeys exchangeKeys squares (record { calls = 0; squares = 0; exchanges = 0 }) c modes 0
  unfolding memory kept_texts kept_numbers verdicts zero_totals zero_modes no_tally modes_in
  walks_begin e z kc kx ks =
      record {
        at = w.first;
        credited = [];
        rest = records_of R s;
        going =
            rw (e, z)
            (record {
              held = w.held;
              rules = w.rules;
              remembers = nothing_kept R;
              left = omega arith;
              totals = refl;
              numbers = refl;
              counts = omega arith;
              calls_noted = noting_begins R s (λ c. c.call) calls₀ w.first n (length (records_of R s)) w.all w.listings.calls_listed;
              exchanges_noted = noting_begins R s (λ c. c.exchange) exchanges₀ w.first n (length (records_of R s)) w.all w.listings.exchanges_listed;
              points_noted = noting_begins R s (λ c. c.points) points w.first n (length (records_of R s)) w.all w.listings.points_listed;
              ends_noted = noting_begins R s (λ c. c.pointsend) pointsends w.first n (length (records_of R s)) w.all w.listings.ends_listed;
            });
        modes_long = ap length z;
        few_modes = λ k. omega (arith, ap (λ (l : List ℕ). get_or l k 0) z, none_yet 11 k);
        within = omega arith;
        told = refl;
        size = refl;
        stays = record { calls_lie = none_lie s (omega (arith, kc)); exchanges_lie = none_lie s (omega (arith, kx)); squares_lie = omega (arith, ks) };
        few_calls = omega arith;
        few_exchanges = omega arith;
        few_squares = omega arith;
        calls_long = w.listings.calls_listed.long;
        exchanges_long = w.listings.exchanges_listed.long;
        points_long = w.listings.points_listed.long;
        ends_long = w.listings.ends_listed.long;
        call_keys_long = kc;
        exchange_keys_long = kx;
        squares_long = ks;
      }

  module _ {out calls exchanges callKeys exchangeKeys squares : List ℕ} {kept : Kept} {c : Tally} {modes : List ℕ} {i : ℕ} (h : Walks R s n slice out calls exchanges points pointsends callKeys exchangeKeys squares kept c modes i) where
    abbrev t : Totals
    t = tallied c modes

    abbrev m : Memory
    m = memory s kept calls callKeys exchanges exchangeKeys squares

    pub walks_end : n ≤ i → Weighs R s slice c out modes
    unfolding add_records
    walks_end k =
        let all = w.all in
        let l : i ≡ length (numbers_of R (records_of R s)) = omega (arith, length_numbers R (records_of R s), h.within) in
        record {
          totals = by h.rest h.going;
          few = counts_fewer R i R.most_records t (omega (arith, h.within, w.few)) h.going.counts;
          written = h.told ∙ written_all (numbers_of R (records_of R s)) slice i l;
        }
      where
        by : (rest : List Qso) → Going R s (records_of R s) i h.at h.credited rest m t calls exchanges points pointsends → t ≡ add_records zero_totals (records_of R s) (verdicts R (records_of R s))
        by [] g = sym g.totals
        by (q ∷ rest) g = absurd (omega (arith, g.left, w.all))

    -- The record that is looked at.
    record Turn : Type 0 where
      pub q : Qso
      pub others : List Qso
      pub goes : Going R s (records_of R s) i h.at h.credited (q ∷ others) m t calls exchanges points pointsends

    module _ (k : i < n) where
      turn : Turn
      turn = by h.rest h.going
        where
          by : (rest : List Qso) → Going R s (records_of R s) i h.at h.credited rest m t calls exchanges points pointsends → Turn
          by [] g = absurd (omega (arith, g.left, w.all))
          by (q ∷ rest) g = record { q = q; others = rest; goes = g }

      module _ {p : Noted} (ec : p.call ≡ get_or calls i 0) (ex : p.exchange ≡ get_or exchanges i 0) (ep : p.points ≡ get_or points i 0) (ee : p.pointsend ≡ get_or pointsends i 0) where
        this : Told R s p turn.q
        this = told_next R s (records_of R s) i h.at h.credited turn.q turn.others m t calls exchanges points pointsends turn.goes ec ex ep ee

        pub ready : p.call < 65_536 → p.exchange < 65_536 → Ready R s p kept calls callKeys exchanges exchangeKeys squares
        ready sc sx =
            let few = w.few in
            record {
              q = turn.q;
              told = this;
              stays = h.stays;
              call_room = omega (arith, h.few_calls, h.calls_long);
              call_key_room = omega (arith, h.few_calls, h.call_keys_long);
              exchange_room = omega (arith, h.few_exchanges, h.exchanges_long);
              exchange_key_room = omega (arith, h.few_exchanges, h.exchange_keys_long);
              square_room = omega (arith, h.few_squares, h.squares_long);
              call_short = sc;
              exchange_short = sx;
            }

        module _ {r : Step} {calls' callKeys' exchanges' exchangeKeys' squares' : List ℕ} (st : Steps R s p kept calls callKeys exchanges exchangeKeys squares r calls' callKeys' exchanges' exchangeKeys' squares') where
          judged : Judges R turn.q h.credited r (memory s r.kept calls' callKeys' exchanges' exchangeKeys' squares')
          judged = st.judges turn.q h.credited this turn.goes.remembers

          pub countable : Countable R c modes r.worth r.mode r.verdict
          countable =
              countable_next R s (records_of R s) i h.at h.credited turn.q turn.others m t calls exchanges points pointsends turn.goes ec ex ep ee judged refl h.modes_long h.few_modes (omega (arith, w.few))

          pub walks_on : {c' : Tally} {modes' : List ℕ} {number : ℕ} →
              tallied c' modes' ≡ add_record t r.worth r.mode r.verdict →
              modes' ≡ modes_after modes r.mode r.verdict →
              number ≡ verdict_number r.verdict →
              length calls' ≡ length calls →
              length callKeys' ≡ length callKeys →
              length exchanges' ≡ length exchanges →
              length exchangeKeys' ≡ length exchangeKeys →
              length squares' ≡ length squares →
              Walks R s n slice (set out i number) calls' exchanges' points pointsends callKeys' exchangeKeys' squares' r.kept c' modes' (i + 1)
          walks_on {number = number} et em en lc lck lx lxk ls =
              let goes = turn.goes in
              let long : i < length (numbers_of R (records_of R s)) = omega (arith, length_numbers R (records_of R s), w.all) in
              let room : i < length slice = omega (arith, w.room) in
              record {
                at = behind (contact_at R s h.at);
                credited = credited_after (verdict_of R h.credited turn.q).class turn.q h.credited;
                rest = turn.others;
                going =
                    goes_on_lem R s (records_of R s) i h.at h.credited turn.q turn.others m t calls exchanges points pointsends goes ec ex ep ee judged kept.calls kept.exchanges et
                    (omega (arith, h.calls_long)) (omega (arith, h.exchanges_long)) (omega (arith, h.points_long)) (omega (arith, h.ends_long))
                    h.few_calls h.few_exchanges st.calls_rest st.exchanges_rest;
                modes_long = ap length em ∙ as_long modes r.mode r.verdict ∙ h.modes_long;
                few_modes = λ k. omega (arith, ap (λ (l : List ℕ). get_or l k 0) em, grown modes r.mode r.verdict k, h.few_modes k);
                within = omega arith;
                told =
                    written_more (numbers_of R (records_of R s)) slice i long room h.told
                    (en ∙ number_next R s (records_of R s) i h.at h.credited turn.q turn.others m t calls exchanges points pointsends goes ec ex ep ee judged);
                size = length-set out i number ∙ h.size;
                stays = st.stays;
                few_calls = omega (arith, st.more_calls, h.few_calls);
                few_exchanges = omega (arith, st.more_exchanges, h.few_exchanges);
                few_squares = omega (arith, st.more_squares, h.few_squares);
                calls_long = omega (arith, lc, h.calls_long);
                exchanges_long = omega (arith, lx, h.exchanges_long);
                points_long = h.points_long;
                ends_long = h.ends_long;
                call_keys_long = lck ∙ h.call_keys_long;
                exchange_keys_long = lxk ∙ h.exchange_keys_long;
                squares_long = ls ∙ h.squares_long;
              }
