-- What W5 asks of a session, sentence by sentence, as statements over the definitions. They are proved elsewhere; here one reads what is claimed. That
-- what a caller keeps in numbers and bytes is such a session is stated in `session/specs/Keeping.antt`.
-- Assumes nothing.
use Rattle.std.specs.Prelude.{ℕ, ◌+◌, ◌≤◌, ◌≡◌, ◌⊎◌, ◌↔◌, List, [], ◌∷◌, ◌++◌, T, length}
use Rattle.rules.specs.declared.Totals.{Totals}
use Rattle.rules.specs.Text.{Text, parts}
use Rattle.rules.specs.Rules.{Rules}
use Rattle.rules.specs.Fields.{Qso, qso_of}
use Rattle.rules.specs.Log.{Log, record_rules}
use Rattle.rules.specs.Judging.{Declared, declared}
use Rattle.rules.specs.Reading.{accepted, refusal, read, keeps, breaks, record_rule}
use Rattle.rules.specs.Answers.{judged, judge}
use Rattle.rules.specs.Session.{Session, session, session_verdicts, session_totals, Call, Reply, start_session, take_record, give_back, reply_to, session_after}
use Rattle.rules.specs.Demands.{AddUp, most_total}

-- Nothing is refused.
abbrev pub IsDone : Reply → Type 0
IsDone r = r.refusal.number ≡ 0

-- # What each call does

-- "takes a record line without CR LF, gives back (drops) the last one, and starts anew": the record comes behind the others, the last one goes, or all
-- of them do; a record that was just taken is the one that is given back. What was declared stays until the next start.
pub record EachCallDoes (R : Rules) (room : ℕ) (s : Session) : Type 0 where
  pub starts : (d : Declared) → IsDone (start_session R d s) → (start_session R d s).session ≡ session d []
  pub takes :
      (l : Text) →
      IsDone (take_record R room l s) →
      (take_record R room l s).session ≡ session s.declared (s.records ++ (qso_of (parts l) ∷ []))
  pub gives_back :
      IsDone (give_back s) →
      (q : Qso)
      × ((give_back s).session.records ++ (q ∷ []) ≡ s.records)
      × ((give_back s).session.declared ≡ s.declared)
  pub undoes :
      (l : Text) →
      IsDone (take_record R room l s) →
      let taken = (take_record R room l s).session in IsDone (give_back taken) × ((give_back taken).session ≡ s)

-- "the kept classes and totals are those that judging the records now present would give": judging any log that has these records and declares
-- these numbers, with a slice that has room for them.
abbrev pub KeptIsJudged : Rules → Type 0
KeptIsJudged R =
    (s : Session) (t : Text) (log : Log) (room : ℕ) →
    read R t ≡ accepted log →
    log.records ≡ s.records →
    declared log ≡ s.declared →
    length s.records ≤ room →
    judge R room t ≡ judged (session_totals R s) (session_verdicts R s)

-- # When it says no

-- "document 01's range": "a bonus 0 to 9,999, a multiplier 1 to 99"
abbrev pub RateInRange : Rules → ℕ → ℕ → Type 0
RateInRange R bonus multiplier = (bonus ≤ R.most_bonus) × (1 ≤ multiplier) × (multiplier ≤ R.most_multiplier)

abbrev pub InRange : Rules → Declared → Type 0
InRange R d =
    RateInRange R d.square_bonus d.square_multiplier
    × RateInRange R d.exchange_bonus d.exchange_multiplier
    × RateInRange R d.country_bonus d.country_multiplier

-- "session full": "The 1,000th record is refused", and one that the lent slices have no room for.
abbrev pub IsFull : Rules → ℕ → Session → Type 0
IsFull R room s = (R.most_records ≤ length s.records) ⊎ (room ≤ length s.records)

-- "line 0: 4 at the start if one is outside document 01's range; 5 bad record; then 11 session full; 12 nothing to give back."
pub record GivenBySession (R : Rules) (room : ℕ) (s : Session) : Type 0 where
  pub four :
      (d : Declared) (n f : ℕ) →
      ((start_session R d s).refusal ≡ refusal 4 n f) ↔ ((n ≡ 0) × (f ≡ 0) × (InRange R d → ⊥))
  pub started : (d : Declared) → IsDone (start_session R d s) ↔ InRange R d
  pub five :
      (l : Text) (n f : ℕ) →
      ((take_record R room l s).refusal ≡ refusal 5 n f) ↔ ((n ≡ 0) × (record_rule R l ≡ breaks f))
  pub eleven :
      (l : Text) (n f : ℕ) →
      ((take_record R room l s).refusal ≡ refusal 11 n f)
      ↔ ((n ≡ 0) × (f ≡ 0) × (record_rule R l ≡ keeps) × IsFull R room s)
  pub taken : (l : Text) → IsDone (take_record R room l s) ↔ ((record_rule R l ≡ keeps) × (IsFull R room s → ⊥))
  pub twelve :
      (n f : ℕ) → ((give_back s).refusal ≡ refusal 12 n f) ↔ ((n ≡ 0) × (f ≡ 0) × (s.records ≡ []))
  pub given_back : IsDone (give_back s) ↔ (s.records ≡ [] → ⊥)

-- "session and its kept totals unchanged"
abbrev pub RefusedStays : Rules → Type 0
RefusedStays R =
    (room : ℕ) (s : Session) (c : Call) → (IsDone (reply_to R room s c) → ⊥) → (reply_to R room s c).session ≡ s

-- # What holds all the time

-- What was declared is in range; there are no more records than there may be, nor than there is room for; and each keeps the rules.
pub record IsSound (R : Rules) (room : ℕ) (s : Session) : Type 0 where
  pub declares : InRange R s.declared
  pub few : length s.records ≤ R.most_records
  pub fits : length s.records ≤ room
  pub rules : T (record_rules R s.records)

-- So it is after a start, and after any calls on a session that is so.
pub record StaysSound (R : Rules) (room : ℕ) : Type 0 where
  pub begins : (d : Declared) → InRange R d → IsSound R room (session d [])
  pub stays : (s : Session) (cs : List Call) → IsSound R room s → IsSound R room (session_after R room s cs)

-- "Giving back frees its place": the next record is taken.
abbrev pub GivingBackFrees : Rules → Type 0
GivingBackFrees R =
    (room : ℕ) (s : Session) (l : Text) →
    IsSound R room s →
    IsDone (give_back s) →
    record_rule R l ≡ keeps →
    IsDone (take_record R room l (give_back s).session)

-- The four counts add up to the number of records; "They add up to the credited count wherever totals are made or kept"; and the total has its bound.
pub record TotalsAddUp (R : Rules) (n : ℕ) (t : Totals) : Type 0 where
  pub classes : t.credited + t.voids + t.duplicates + t.errors ≡ n
  pub modes : AddUp t
  pub total : t.total ≤ most_total R

abbrev pub KeptAddUp : Rules → Type 0
KeptAddUp R =
    (room : ℕ) (s : Session) → IsSound R room s → TotalsAddUp R (length s.records) (session_totals R s)

-- # All of it

pub record TheSession (R : Rules) : Type 0 where
  pub each_call_does : (room : ℕ) (s : Session) → EachCallDoes R room s
  pub kept_is_judged : KeptIsJudged R
  pub given_exactly_when : (room : ℕ) (s : Session) → GivenBySession R room s
  pub refused_stays : RefusedStays R
  pub stays_sound : (room : ℕ) → StaysSound R room
  pub giving_back_frees : GivingBackFrees R
  pub kept_add_up : KeptAddUp R
