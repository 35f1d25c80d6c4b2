-- Where the parts of a record lie, and which records stand one behind the other. Each definition gives an answer for every text; what it says
-- of an accepted log is stated at the end.
-- Assumes nothing.
use Rattle.std.specs.Prelude.{ℕ, zero, suc, ◌+◌, ◌-◌, ◌≡◌, Bool, cond, List, [], ◌∷◌, length, take, drop}
use Rattle.rules.specs.Text.{Text, begins, same, value, number_of}
use Rattle.rules.specs.Rules.{Rules}
use Rattle.rules.specs.Fields.{Qso, error_call, new_mark, duplicate_mark, is_error}
use Rattle.rules.specs.Judging.{claims_country, claims_duplicate}
use Rattle.fields.specs.Field.{text_at, end_of}
use Rattle.reader.specs.declared.Contact.{Contact}

-- Where the field behind so many fields begins, from the first one's place on: one semicolon stands behind each.
unfoldable pub field_start : Text → ℕ → ℕ → ℕ
unfolding end_of
field_start s at zero = at
field_start s at (suc k) = end_of s (field_start s at k) + 1

-- The value of a number that keeps a rule; 0 for anything else.
unfoldable pub value_by : (Text → Bool) → Text → ℕ
unfolding value
value_by rule t = cond (rule t) (value t) 0

-- No semicolon stands behind the last field: it ends behind its `D`, or where it begins.
unfoldable pub last_end : Text → ℕ → ℕ
unfolding begins duplicate_mark
last_end s at = at + cond (begins duplicate_mark (drop at s)) 1 0

-- What is told of the record that begins at a place: where its call, exchange, locator and points begin and end, what they are worth, and where
-- the record ends.
unfoldable pub contact_at : Rules → Text → ℕ → Contact
unfolding field_start end_of text_at same error_call new_mark value_by number_of last_end
contact_at R s at =
    record {
      call = field_start s at 2;
      callend = end_of s (field_start s at 2);
      exchange = field_start s at 8;
      exchangeend = end_of s (field_start s at 8);
      locator = field_start s at 9;
      locatorend = end_of s (field_start s at 9);
      points = field_start s at 10;
      pointsend = end_of s (field_start s at 10);
      worth = value_by (number_of R.points_digits) (text_at s (field_start s at 10));
      error = same (text_at s (field_start s at 2)) error_call;
      country = same (text_at s (field_start s at 13)) new_mark;
      end = last_end s (field_start s at 14);
    }

-- Where the next record begins: CR LF stand behind this one.
abbrev pub behind : Contact → ℕ
behind c = c.end + 2

-- So many records, the first of which begins at a place.
unfoldable pub contacts_at : Rules → Text → ℕ → ℕ → List Contact
unfolding contact_at
contacts_at R s at zero = []
contacts_at R s at (suc n) = contact_at R s at ∷ contacts_at R s (behind (contact_at R s at)) n

-- # What is told of an accepted log

-- The part of a text from a place to another.
abbrev pub between : Text → ℕ → ℕ → Text
between s a e = take (e - a) (drop a s)

-- The last field stands behind the three marks that stand behind the points. It claims a D where it begins with one.
abbrev pub claimed_at : Text → ℕ → Bool
claimed_at s pointsend = begins duplicate_mark (drop (field_start s (pointsend + 1) 3) s)

-- The mode stands behind the call.
abbrev pub mode_at : Text → ℕ → Text
mode_at s callend = between s (callend + 1) (end_of s (callend + 1))

-- What is told at a place is true of this record.
pub record Describes (s : Text) (c : Contact) (q : Qso) : Type 0 where
  pub call_is : between s c.call c.callend ≡ q.call
  pub mode_is : mode_at s c.callend ≡ q.mode
  pub exchange_is : between s c.exchange c.exchangeend ≡ q.exchange
  pub locator_is : between s c.locator c.locatorend ≡ q.locator
  pub points_are : between s c.points c.pointsend ≡ q.points
  pub worth_is : c.worth ≡ value q.points
  pub error_is : c.error ≡ is_error q
  pub country_is : c.country ≡ claims_country q
  pub duplicate_is : claimed_at s c.pointsend ≡ claims_duplicate q

-- From a place on the log holds these records, one behind the other, and then ends.
abbrev pub Holds : Rules → Text → ℕ → List Qso → Type 0
Holds R s at [] = at ≡ length s
Holds R s at (q ∷ qs) = Describes s (contact_at R s at) q × Holds R s (behind (contact_at R s at)) qs
