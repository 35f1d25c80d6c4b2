-- W5: "Keep it in a session that takes a record line without CR LF, gives back (drops) the last one, and starts anew. After each of these the kept
-- classes and totals are those that judging the records now present would give."
-- Assumes nothing.
use Rattle.std.specs.Prelude.{ℕ, ◌-◌, Bool, cond, ◌&&◌, List, [], ◌∷◌, ◌++◌, map, leb, ltb, eqb, length, take}
use Rattle.rules.specs.declared.Refusal.{Refusal}
use Rattle.rules.specs.declared.Totals.{Totals}
use Rattle.rules.specs.Text.{Text, parts}
use Rattle.rules.specs.Rules.{Rules}
use Rattle.rules.specs.Fields.{Qso, qso_of}
use Rattle.rules.specs.Log.{conjunction}
use Rattle.rules.specs.Judging.{Declared, verdict_number, verdicts, totals}
use Rattle.rules.specs.Reading.{refusal, RecordRule, keeps, breaks, record_rule}
use Rattle.rules.specs.Answers.{no_refusal}

-- What was declared at the start, and the records now present, the first one first.
pub record Session : Type 0 where
  pub declared : Declared
  pub records : List Qso

-- "The kept classes and totals": those of judging the records now present.
unfoldable pub session_verdicts : Rules → Session → List ℕ
unfolding verdict_number verdicts
session_verdicts R s = map verdict_number (verdicts R s.records)

unfoldable pub session_totals : Rules → Session → Totals
unfolding totals
session_totals R s = totals R s.declared s.records

abbrev pub session : Declared → List Qso → Session
session d qs = record { declared = d; records = qs }

-- What may be asked of a session.
pub data Call : Type 0 where
  starts : Declared → Call
  takes : Text → Call
  gives_back : Call

-- Why it is refused, or that it is not, and the session afterwards.
pub record Reply : Type 0 where
  pub refusal : Refusal
  pub session : Session

abbrev reply : Refusal → Session → Reply
reply r s = record { refusal = r; session = s }

-- "a bonus 0 to 9,999, a multiplier 1 to 99"
abbrev pub rate_tests : Rules → ℕ → ℕ → List Bool
rate_tests R bonus multiplier = leb bonus R.most_bonus ∷ leb 1 multiplier ∷ leb multiplier R.most_multiplier ∷ []

unfoldable pub rate_rule : Rules → ℕ → ℕ → Bool
unfolding conjunction
rate_rule R bonus multiplier = conjunction (rate_tests R bonus multiplier)

abbrev pub declared_tests : Rules → Declared → List Bool
declared_tests R d =
    rate_rule R d.square_bonus d.square_multiplier
    ∷ rate_rule R d.exchange_bonus d.exchange_multiplier
    ∷ rate_rule R d.country_bonus d.country_multiplier
    ∷ []

unfoldable pub declared_rule : Rules → Declared → Bool
unfolding conjunction rate_rule
declared_rule R d = conjunction (declared_tests R d)

-- "Starting takes the three bonuses and multipliers"; "4 at the start if one is outside document 01's range"
unfoldable pub start_session : Rules → Declared → Session → Reply
unfolding declared_rule no_refusal
start_session R d s =
    cond (declared_rule R d) (reply no_refusal (session d [])) (reply (refusal 4 0 0) s)

-- There is a place for one more: "The 1,000th record is refused", and so is one that the lent slices, with room for so many, do not hold.
unfoldable pub has_place : Rules → ℕ → Session → Bool
has_place R room s = ltb (length s.records) R.most_records && ltb (length s.records) room

-- "5 bad record; then 11 session full"
unfoldable pub take_by : Rules → ℕ → Text → Session → RecordRule → Reply
unfolding has_place no_refusal qso_of parts
take_by R room l s (breaks field) = reply (refusal 5 0 field) s
take_by R room l s keeps =
    let with = session s.declared (s.records ++ (qso_of (parts l) ∷ [])) in
    cond (has_place R room s) (reply no_refusal with) (reply (refusal 11 0 0) s)

unfoldable pub take_record : Rules → ℕ → Text → Session → Reply
unfolding take_by record_rule
take_record R room l s = take_by R room l s (record_rule R l)

-- "Giving back frees its place"; "12 nothing to give back"
unfoldable pub give_back : Session → Reply
unfolding no_refusal
give_back s =
    let n = length s.records in
    let without = session s.declared (take (n - 1) s.records) in
    cond (eqb n 0) (reply (refusal 12 0 0) s) (reply no_refusal without)

unfoldable pub reply_to : Rules → ℕ → Session → Call → Reply
unfolding start_session take_record give_back
reply_to R room s (starts d) = start_session R d s
reply_to R room s (takes l) = take_record R room l s
reply_to R room s gives_back = give_back s

-- The session after these calls, and what is answered to each of them.
unfoldable pub session_after : Rules → ℕ → Session → List Call → Session
unfolding reply_to
session_after R room s [] = s
session_after R room s (c ∷ cs) = session_after R room (reply_to R room s c).session cs

unfoldable pub replies_to : Rules → ℕ → Session → List Call → List Reply
unfolding reply_to
replies_to R room s [] = []
replies_to R room s (c ∷ cs) = let r = reply_to R room s c in r ∷ replies_to R room r.session cs
