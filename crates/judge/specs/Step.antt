-- What the judging of one record asks and promises.
-- Assumes nothing.
use Rattle.std.specs.Prelude.{ℕ, ◌+◌, ◌-◌, ◌≤◌, ◌<◌, ◌≡◌, Bool, true, not, ◌&&◌, ◌||◌, List, ◌∷◌, eqb, length, take, drop, get_or, set}
use Rattle.rules.specs.declared.Class.{Class}
use Rattle.rules.specs.declared.Class.TheVariants.{Credited}
use Rattle.rules.specs.Text.{Text, same, value, number_of}
use Rattle.rules.specs.Rules.{Rules}
use Rattle.rules.specs.Fields.{Qso, error_call, new_mark, field_rules}
use Rattle.rules.specs.Log.{conjunction}
use Rattle.rules.specs.Arguments.{among}
use Rattle.rules.specs.Judging.{is, verdict_of, credited_after}
use Rattle.fields.specs.Field.{text_at, end_of}
use Rattle.reader.specs.Contact.{field_start, value_by, contact_at, between, claimed_at, Holds}
use Rattle.judge.specs.declared.Kept.{Kept}
use Rattle.judge.specs.declared.Noted.{Noted}
use Rattle.judge.specs.declared.Step.{Step}
use Rattle.judge.specs.Said.{class_by}
use Rattle.judge.specs.Count.{worth_if, mode_place, mode_of}
use Rattle.judge.specs.Parts.{key_of, number_of_square, kept_texts, kept_numbers, Lying}
use Rattle.judge.specs.Memory.{Memory, unseen, unseen_square, kept_with, memory, Remembers}

-- # The texts of a record, by what is noted of it

abbrev pub call_noted : Text → Noted → Text
call_noted s p = between s p.call (end_of s p.call)

abbrev pub exchange_noted : Text → Noted → Text
exchange_noted s p = between s p.exchange (end_of s p.exchange)

-- The locator lies between the exchange and the points.
abbrev pub locator_noted : Text → Noted → Text
locator_noted s p = between s (end_of s p.exchange + 1) (p.points - 1)

abbrev pub country_noted : Text → Noted → Bool
country_noted s p = same (text_at s (field_start s (p.pointsend + 1) 2)) new_mark

-- Points are 0 exactly where they begin with one.
abbrev pub claims_noted : Text → Noted → Bool
claims_noted s p = not (eqb (get_or s p.points 0) 48)

abbrev pub worth_noted : Rules → Text → Noted → ℕ
worth_noted R s p = value_by (number_of R.points_digits) (text_at s p.points)

-- Which of the eleven modes it is, by the character behind the call and its semicolon.
abbrev pub mode_noted : Text → Noted → ℕ
mode_noted s p = mode_place (get_or s (end_of s p.call + 1) 0)

-- W3: "a duplicate needs points or a claimed D".
abbrev pub may_repeat_noted : Text → Noted → Bool
may_repeat_noted s p = claims_noted s p || claimed_at s p.pointsend

-- The class by the calls that are kept.
unfoldable pub class_noted : List Text → Text → Noted → Class
unfolding class_by same error_call among
class_noted calls s p =
    class_by (same (call_noted s p) error_call) (may_repeat_noted s p && among calls (call_noted s p)) (claims_noted s p)

-- # What is asked

-- This is noted of the record, which keeps its rules and stands in the log with others behind it.
pub record Told (R : Rules) (s : Text) (p : Noted) (q : Qso) : Type 0 where
  pub at : ℕ
  pub rest : List Qso
  pub held : Holds R s at (q ∷ rest)
  pub rules : conjunction (field_rules R q) ≡ true
  pub call : p.call ≡ (contact_at R s at).call
  pub exchange : p.exchange ≡ (contact_at R s at).exchange
  pub points : p.points ≡ (contact_at R s at).points
  pub pointsend : p.pointsend ≡ (contact_at R s at).pointsend

-- All that is kept is there.
pub record Stays (s : Text) (kept : Kept) (calls callKeys exchanges exchangeKeys squares : List ℕ) : Type 0 where
  pub calls_lie : Lying s calls callKeys kept.calls
  pub exchanges_lie : Lying s exchanges exchangeKeys kept.exchanges
  pub squares_lie : kept.squares < length squares

-- What the class is found by: the call's key stands behind those that are kept.
pub record Classed (s : Text) (p : Noted) (end : ℕ) (calls keys : List ℕ) (m : ℕ) : Type 0 where
  pub lies : Lying s calls keys m
  pub ends : end ≡ end_of s p.call
  pub within : end < length s
  pub key : get_or keys m 0 ≡ key_of (call_noted s p)
  pub points : p.points < length s
  pub last : field_start s (p.pointsend + 1) 3 ≤ length s

-- So it is, there is room for one more of each, and this is noted of some record.
pub record Ready (R : Rules) (s : Text) (p : Noted) (kept : Kept) (calls callKeys exchanges exchangeKeys squares : List ℕ) : Type 0 where
  pub q : Qso
  pub told : Told R s p q
  pub stays : Stays s kept calls callKeys exchanges exchangeKeys squares
  pub call_room : kept.calls < length calls
  pub call_key_room : kept.calls + 1 < length callKeys
  pub exchange_room : kept.exchanges < length exchanges
  pub exchange_key_room : kept.exchanges + 1 < length exchangeKeys
  pub square_room : kept.squares + 1 < length squares
  pub call_short : p.call < 65_536
  pub exchange_short : p.exchange < 65_536

-- The same, where the record is credited: its call's key stands behind the others already.
pub record CreditReady (R : Rules) (s : Text) (p : Noted) (kept : Kept) (calls exchanges exchangeKeys squares : List ℕ) : Type 0 where
  pub q : Qso
  pub told : Told R s p q
  pub exchanges_lie : Lying s exchanges exchangeKeys kept.exchanges
  pub call_room : kept.calls < length calls
  pub exchange_room : kept.exchanges < length exchanges
  pub exchange_key_room : kept.exchanges + 1 < length exchangeKeys
  pub square_room : kept.squares + 1 < length squares
  pub call_short : p.call < 65_536
  pub exchange_short : p.exchange < 65_536

-- # What is promised

-- A part is looked for, and kept where it is new; places behind the first that is not in use are left as they are.
pub record NewPart (s : Text) (places keys : List ℕ) (m a e : ℕ) (r : Bool) (places' keys' : List ℕ) : Type 0 where
  pub is_new : r ≡ unseen (kept_texts s places keys m) (between s a e)
  pub texts : kept_texts s places' keys' (worth_if r 1 + m) ≡ kept_with r (between s a e) (kept_texts s places keys m)
  pub lies : Lying s places' keys' (worth_if r 1 + m)
  pub rest : drop (m + 1) places' ≡ drop (m + 1) places

-- A square is looked for by its number, and kept where it is new.
pub record NewSquare (squares : List ℕ) (m : ℕ) (t : Text) (r : Bool) (squares' : List ℕ) : Type 0 where
  pub is_new : r ≡ unseen_square (kept_numbers squares m) t
  pub numbers : kept_numbers squares' (worth_if r 1 + m) ≡ kept_with r (number_of_square t) (kept_numbers squares m)
  pub size : length squares' ≡ length squares

-- A credited record: what is new with it, what it is worth, and what is kept then.
pub record Credits (R : Rules) (s : Text) (p : Noted) (mode : ℕ) (kept : Kept) (calls exchanges exchangeKeys squares : List ℕ) (r : Step) (calls' exchanges' exchangeKeys' squares' : List ℕ) : Type 0 where
  pub class : r.verdict.class ≡ Credited
  pub exchange : NewPart s exchanges exchangeKeys kept.exchanges p.exchange (end_of s p.exchange) r.verdict.exchange exchanges' exchangeKeys'
  pub square : NewSquare squares kept.squares (take 4 (locator_noted s p)) r.verdict.square squares'
  pub country : r.verdict.country ≡ country_noted s p
  pub worth : r.worth ≡ worth_noted R s p
  pub mode_told : r.mode ≡ mode
  pub calls_then : calls' ≡ set calls kept.calls p.call
  pub kept_calls : r.kept.calls ≡ kept.calls + 1
  pub kept_exchanges : r.kept.exchanges ≡ worth_if r.verdict.exchange 1 + kept.exchanges
  pub kept_squares : r.kept.squares ≡ worth_if r.verdict.square 1 + kept.squares

-- What is said of a record after these credited ones is what document 01 says; and what is kept then serves for the credited ones after it.
pub record Judges (R : Rules) (q : Qso) (credited : List Qso) (r : Step) (m : Memory) : Type 0 where
  pub verdict : r.verdict ≡ verdict_of R credited q
  pub worth : r.worth ≡ worth_if (is Credited (verdict_of R credited q).class) (value q.points)
  pub mode : is Credited (verdict_of R credited q).class ≡ true → r.mode ≡ mode_of q
  pub remembers : Remembers R m (credited_after (verdict_of R credited q).class q credited)

pub record Steps (R : Rules) (s : Text) (p : Noted) (kept : Kept) (calls callKeys exchanges exchangeKeys squares : List ℕ) (r : Step) (calls' callKeys' exchanges' exchangeKeys' squares' : List ℕ) : Type 0 where
  pub judges :
      (q : Qso) (credited : List Qso) → Told R s p q → Remembers R (memory s kept calls callKeys exchanges exchangeKeys squares) credited → Judges R q credited r (memory s r.kept calls' callKeys' exchanges' exchangeKeys' squares')
  pub stays : Stays s r.kept calls' callKeys' exchanges' exchangeKeys' squares'
  pub more_calls : r.kept.calls ≤ kept.calls + 1
  pub more_exchanges : r.kept.exchanges ≤ kept.exchanges + 1
  pub more_squares : r.kept.squares ≤ kept.squares + 1
  pub calls_rest : drop (kept.calls + 1) calls' ≡ drop (kept.calls + 1) calls
  pub exchanges_rest : drop (kept.exchanges + 1) exchanges' ≡ drop (kept.exchanges + 1) exchanges
