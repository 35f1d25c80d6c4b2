-- What W2 asks of the mender, sentence by sentence, as statements over the definitions. They are proved elsewhere; here one reads what is claimed.
-- Assumes nothing.
use Rattle.std.specs.Prelude.{ℕ, suc, ◌-◌, ◌≤◌, ◌<◌, ◌≡◌, ◌⊎◌, ◌↔◌, true, false, cond, T, length, get_or, replicate}
use mathlib.Core.List.{List, [], ◌∷◌, ◌++◌, map, Memᴰ}
use Rattle.rules.specs.declared.Refusal.{Refusal}
use Rattle.rules.specs.declared.Region.{Region}
use Rattle.rules.specs.declared.Region.TheVariants.{Head, Remarks, Records}
use Rattle.rules.specs.Text.{Text, bytes, begins}
use Rattle.rules.specs.Rules.{Rules}
use Rattle.rules.specs.Log.{Log, remarks_line, count_start, FollowsTheFormat}
use Rattle.rules.specs.Reading.{accepted, refused, refusal, read}
use Rattle.rules.specs.Answers.{over}
use Rattle.rules.specs.Given.{LineAndField}
use Rattle.rules.specs.Mending.{ChewedLine, chewed_lines, ends_in_cr, without_cr, trimmed, has_count, count_set, region_after, mended_lines, texts_of, mended_text, Change, changes, Rooms, mended, unmended, mend, refusal_of_mending, bytes_of_mending, kinds_of_mending, lines_of_mending}

-- # Lines

-- The bytes of a line, with the LF that it has.
unfoldable pub chewed_bytes : List ChewedLine → Text
chewed_bytes [] = []
chewed_bytes (l ∷ ls) = l.text ++ cond l.ends (10 ∷ []) [] ++ chewed_bytes ls

-- "A line here ends at LF": no other character of a line is LF, each line but a last one has it, and that one has bytes.
pub record EndsAtLf (l : ChewedLine) (behind : List ChewedLine) : Type 0 where
  pub no_other : Memᴰ 10 l.text → ⊥
  pub last : l.ends ≡ false → (behind ≡ []) × (l.text ≡ [] → ⊥)

pub record LinesEndAtLf (s : Text) : Type 0 where
  pub text : chewed_bytes (chewed_lines s) ≡ s
  pub each :
      (front : List ChewedLine) (l : ChewedLine) (behind : List ChewedLine) →
      chewed_lines s ≡ front ++ l ∷ behind →
      EndsAtLf l behind

-- A CR at the end of a line is taken with its end; spaces at the end are dropped, and nothing else.
pub record EndOfText (t : Text) : Type 0 where
  pub with_cr : T (ends_in_cr t) → t ≡ without_cr t ++ 13 ∷ []
  pub no_cr : ends_in_cr t ≡ false → (t ≡ without_cr t) × ((front : Text) → t ≡ front ++ 13 ∷ [] → ⊥)
  pub spaces : (n : ℕ) × (t ≡ trimmed t ++ replicate n 32)
  pub no_more : (front : Text) → trimmed t ≡ front ++ 32 ∷ [] → ⊥

-- # What comes out

-- "A log already accepted comes out unchanged with an empty list."
pub record ComesOutUnchanged (R : Rules) (s : Text) : Type 0 where
  pub text : mended_text s ≡ s
  pub list : changes s ≡ []
  pub answer : (rooms : Rooms) → length s ≤ rooms.out → mend R rooms s ≡ mended s []

abbrev pub AcceptedComesOutUnchanged : Rules → Type 0
AcceptedComesOutUnchanged R = (s : Text) (log : Log) → read R s ≡ accepted log → ComesOutUnchanged R s

-- "The mended log is accepted or no byte is handed over."
abbrev pub HandedOverIsAccepted : Rules → Type 0
HandedOverIsAccepted R =
    (s t : Text) (rooms : Rooms) (cs : List Change) → mend R rooms s ≡ mended t cs → FollowsTheFormat R t

-- What was mended once is mended: nothing changes any more, and nothing is listed.
abbrev pub MendedOnceIsMended : Type 0
MendedOnceIsMended = (s : Text) → (mended_text (mended_text s) ≡ mended_text s) × (changes (mended_text s) ≡ [])

-- "four things .. and no others": the lines of a text without CR before LF, without the spaces at the end of record lines, and without the digits of
-- the count line.
unfoldable pub bare_line : Region → Text → Text
unfolding has_count count_start trimmed
bare_line Head l = l
bare_line Remarks l = cond (has_count l) (count_start ++ bytes "]") l
bare_line Records l = trimmed l

unfoldable pub bare_lines : Region → List Text → List Text
unfolding bare_line region_after
bare_lines region [] = []
bare_lines region (l ∷ ls) = bare_line region l ∷ bare_lines (region_after region l) ls

-- The lines of a text, each without its end.
unfoldable pub line_texts : Text → List Text
unfolding without_cr chewed_lines
line_texts s = map (λ l. without_cr l.text) (chewed_lines s)

unfoldable pub bare : Text → List Text
unfolding bare_lines line_texts
bare s = bare_lines Head (line_texts s)

abbrev pub NothingElseChanges : Type 0
NothingElseChanges = (s : Text) → bare (mended_text s) ≡ bare s

-- # What is told

-- The first line `[Remarks]`; the first line behind it that begins `[QSORecords;`, which is the count line; the lines behind that.
abbrev pub RemarksLineAt : List Text → ℕ → Type 0
RemarksLineAt ls i =
    (i < length ls)
    × (get_or ls i [] ≡ remarks_line)
    × ((k : ℕ) → k < i → get_or ls k [] ≡ remarks_line → ⊥)

abbrev pub CountLineAt : List Text → ℕ → Type 0
CountLineAt ls j =
    (i : ℕ)
    × RemarksLineAt ls i
    × (i < j)
    × (j < length ls)
    × T (begins count_start (get_or ls j []))
    × ((k : ℕ) → i < k → k < j → T (begins count_start (get_or ls k [])) → ⊥)

abbrev pub RecordLineAt : List Text → ℕ → Type 0
RecordLineAt ls m = (j : ℕ) × CountLineAt ls j × (j < m) × (m < length ls)

-- A kind is listed for a line.
abbrev pub Listed : ℕ → ℕ → Text → Type 0
Listed kind line s = Memᴰ {A = Change} (record { kind = kind; line = line }) (changes s)

-- Of the line at a place, the first of which is 0, with its text before and after: what becomes of it, and that each thing that was changed in it,
-- and no other, is listed for its number, which is one more.
pub record LineIsTold (s : Text) (j : ℕ) (l : ChewedLine) (before after : Text) : Type 0 where
  pub record_line : RecordLineAt (line_texts s) j → after ≡ trimmed before
  pub count_line : CountLineAt (line_texts s) j → after ≡ count_set (length (line_texts s) - suc j) before
  pub other_line : (RecordLineAt (line_texts s) j → ⊥) → (CountLineAt (line_texts s) j → ⊥) → after ≡ before
  pub one : Listed 1 (suc j) s ↔ ((l.ends ≡ true) × (ends_in_cr l.text ≡ false))
  pub two : Listed 2 (suc j) s ↔ (l.ends ≡ false)
  pub three : Listed 3 (suc j) s ↔ (RecordLineAt (line_texts s) j × (after ≡ before → ⊥))
  pub four : Listed 4 (suc j) s ↔ (CountLineAt (line_texts s) j × (after ≡ before → ⊥))

abbrev pub EachLineIsTold : Type 0
EachLineIsTold =
    (s : Text) (j : ℕ) →
    j < length (chewed_lines s) →
    LineIsTold s j
    (get_or (chewed_lines s) j (record { text = []; ends = true }))
    (get_or (line_texts s) j [])
    (get_or (texts_of (mended_lines s)) j [])

-- "once, .. by line, then in the order above": each entry of the list comes in front of all that stand behind it.
abbrev pub ComesBefore : Change → Change → Type 0
ComesBefore c d = (c.line < d.line) ⊎ ((c.line ≡ d.line) × (c.kind < d.kind))

pub record ListIsInOrder (s : Text) : Type 0 where
  pub order :
      (front : List Change) (c : Change) (middle : List Change) (d : Change) (behind : List Change) →
      changes s ≡ front ++ c ∷ middle ++ d ∷ behind →
      ComesBefore c d
  pub kinds : (c : Change) → Memᴰ c (changes s) → (1 ≤ c.kind) × (c.kind ≤ 4)
  pub lines : (c : Change) → Memᴰ c (changes s) → (1 ≤ c.line) × (c.line ≤ length (chewed_lines s))

-- # When it says no

-- "Refusals: 1 if the input is over the limit, then the reader's number for the mended log, then 10 list slices too short, then 8."
abbrev pub ListIsTooLong : Rooms → Text → Type 0
ListIsTooLong rooms s = (rooms.kinds < length (changes s)) ⊎ (rooms.lines < length (changes s))

pub record GivenByMending (R : Rules) (s : Text) (rooms : Rooms) : Type 0 where
  -- 1 is also the reader's number for a mended log that is over the limit.
  pub one :
      (n f : ℕ) →
      (mend R rooms s ≡ unmended (refusal 1 n f))
      ↔ ((n ≡ 0) × (f ≡ 0) × ((R.longest_log < length s) ⊎ (R.longest_log < length (mended_text s))))
  pub reading :
      (r : Refusal) → length s ≤ R.longest_log → read R (mended_text s) ≡ refused r → mend R rooms s ≡ unmended r
  pub ten :
      (n f : ℕ) →
      (mend R rooms s ≡ unmended (refusal 10 n f))
      ↔ ((n ≡ 0)
      × (f ≡ 0)
      × (length s ≤ R.longest_log)
      × FollowsTheFormat R (mended_text s)
      × ListIsTooLong rooms s)
  pub eight :
      (n f : ℕ) →
      (mend R rooms s ≡ unmended (refusal 8 n f))
      ↔ ((n ≡ 0)
      × (f ≡ 0)
      × (length s ≤ R.longest_log)
      × FollowsTheFormat R (mended_text s)
      × (ListIsTooLong rooms s → ⊥)
      × (rooms.out < length (mended_text s)))
  pub zero :
      ((refusal_of_mending (mend R rooms s)).number ≡ 0)
      ↔ ((length s ≤ R.longest_log)
      × FollowsTheFormat R (mended_text s)
      × (ListIsTooLong rooms s → ⊥)
      × (length (mended_text s) ≤ rooms.out))
  -- What is handed over is the mended log and the list of it.
  pub handed : (t : Text) (cs : List Change) → mend R rooms s ≡ mended t cs → (t ≡ mended_text s) × (cs ≡ changes s)
  pub line_and_field : LineAndField (refusal_of_mending (mend R rooms s))

-- "A refusal gives .. length 0, and no byte of a lent slice is changed": nothing is handed out, and each slice holds what it held.
pub record RefusedMendingChangesNothing (R : Rules) (s : Text) (rooms : Rooms) : Type 0 where
  pub no_byte : bytes_of_mending (mend R rooms s) ≡ []
  pub no_kind : kinds_of_mending (mend R rooms s) ≡ []
  pub no_line : lines_of_mending (mend R rooms s) ≡ []
  pub out : (slice : List ℕ) → over (bytes_of_mending (mend R rooms s)) slice ≡ slice
  pub kinds : (slice : List ℕ) → over (kinds_of_mending (mend R rooms s)) slice ≡ slice
  pub lines : (slice : List ℕ) → over (lines_of_mending (mend R rooms s)) slice ≡ slice

-- # All of it

pub record TheMender (R : Rules) : Type 0 where
  pub lines_end_at_lf : (s : Text) → LinesEndAtLf s
  pub end_of_text : (t : Text) → EndOfText t
  pub accepted_comes_out_unchanged : AcceptedComesOutUnchanged R
  pub handed_over_is_accepted : HandedOverIsAccepted R
  pub mended_once_is_mended : MendedOnceIsMended
  pub nothing_else_changes : NothingElseChanges
  pub each_line_is_told : EachLineIsTold
  pub list_is_in_order : (s : Text) → ListIsInOrder s
  pub given_exactly_when : (s : Text) (rooms : Rooms) → GivenByMending R s rooms
  pub a_refusal_changes_nothing :
      (s : Text) (rooms : Rooms) (r : Refusal) →
      mend R rooms s ≡ unmended r →
      RefusedMendingChangesNothing R s rooms
