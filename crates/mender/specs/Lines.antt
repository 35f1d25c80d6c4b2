-- The lines of a chewed text by their places: a line is a part of the text, or the count line, which alone is made anew.
-- Assumes nothing.
use Rattle.std.specs.Prelude.{ℕ, ◌+◌, ◌≤◌, ◌<◌, ◌≡◌, Bool, true, false, cond, List, [], ◌∷◌, ◌++◌, map, ltb, length, drop, Option, Some, None}
use Rattle.rules.specs.declared.Region.{Region}
use Rattle.rules.specs.Text.{Text, all, allowed, same}
use Rattle.rules.specs.Log.{count_start, count_line}
use Rattle.rules.specs.Mending.{MendedLine, chewed_lines, ends_in_cr, without_cr, end_mended, trimmed, digits_then_end, region_after, line_mended, lines_mended}
use Rattle.reader.specs.Contact.{between}
use Rattle.mender.specs.declared.Kind.{Kind}
use Rattle.mender.specs.declared.Kind.TheVariants.{ReturnPut, EndPut, SpacesDropped, CountSet}
use Rattle.mender.specs.declared.Cut.{Cut}
use Rattle.mender.specs.declared.Laid.{Laid}

-- The lines from a place of a text on, with their ends mended; and with all that is mended in them, by where the first of them lies.
unfoldable pub lines_at : Text → ℕ → List MendedLine
unfolding end_mended chewed_lines
lines_at s at = map end_mended (chewed_lines (drop at s))

abbrev pub mended_at : Region → Text → ℕ → List MendedLine
mended_at region s at = lines_mended region (lines_at s at)

-- The number of a kind: 1 for "put CR before a bare LF", 2 for "end a last line", 3 for "drop spaces at the end", and 4 for the count that is set.
abbrev pub kind_number : Kind → ℕ
kind_number ReturnPut = 1
kind_number EndPut = 2
kind_number SpacesDropped = 3
kind_number CountSet = 4

-- What is done to a line, as the definition lists it: nothing, or one thing by its number.
unfoldable pub kinds_of : Option Kind → List ℕ
kinds_of None = []
kinds_of (Some kind) = kind_number kind ∷ []

-- The count is set.
abbrev pub sets_count : Option Kind → Bool
sets_count None = false
sets_count (Some ReturnPut) = false
sets_count (Some EndPut) = false
sets_count (Some SpacesDropped) = false
sets_count (Some CountSet) = true

-- What has to be done to the end of a line, by how long the log is, where the line's LF stands or the log ends, and where the line's text ends.
abbrev pub end_kind : ℕ → ℕ → ℕ → Option Kind
end_kind length feed end = cond (ltb feed length) (cond (ltb end feed) None (Some ReturnPut)) (Some EndPut)

-- Places are told rightly: a line's text lies between them, and the next line begins behind it.
pub record Spans (s : Text) (at end next : ℕ) : Type 0 where
  pub forth : at ≤ end
  pub within : end ≤ length s
  pub behind : end < next
  pub near : next ≤ length s + 1

-- What is told of the end of a line that goes on up to a place.
pub record EndsAt (s : Text) (at feed end : ℕ) : Type 0 where
  pub text : between s at end ≡ without_cr (between s at feed)
  pub forth : at ≤ end
  pub within : end ≤ feed
  pub cr : ends_in_cr (between s at feed) ≡ ltb end feed

-- Where a text ends without the spaces at its end.
pub record Trims (s : Text) (at end last : ℕ) : Type 0 where
  pub text : between s at last ≡ trimmed (between s at end)
  pub forth : at ≤ last
  pub within : last ≤ end

-- What `cut_at` tells of the line at a place: its text without its end, what has to be done to that, and where the next line begins.
pub record Cuts (s : Text) (at : ℕ) (c : Cut) : Type 0 where
  pub lines :
      lines_at s at
      ≡ record { text = between s at c.end; done = kinds_of c.done } ∷ lines_at s c.next
  pub spans : Spans s at c.end c.next
  pub clean : all allowed (between s at c.end) ≡ c.clean

-- What `lay` tells of it: its text, which is a part of the log unless the count is set, and what was done to it.
unfoldable pub text_laid : Text → ℕ → ℕ → Laid → Text
unfolding count_line
text_laid s at follow l = cond (sets_count l.second) (count_line follow) (between s at l.end)

unfoldable pub line_laid : Text → ℕ → ℕ → Laid → MendedLine
unfolding text_laid kinds_of
line_laid s at follow l =
    record { text = text_laid s at follow l; done = kinds_of l.first ++ kinds_of l.second }

-- What has to be done to a line that begins as the count line does.
unfoldable pub count_kind : ℕ → Text → Option Kind
unfolding digits_then_end count_start same count_line
count_kind follow l =
    cond (digits_then_end (drop (length count_start) l)) (cond (same (count_line follow) l) None (Some CountSet)) None

pub record Lays (region : Region) (s : Text) (at follow : ℕ) (l : Laid) : Type 0 where
  -- The line that stands there with its end mended.
  pub line : MendedLine
  pub lines : lines_at s at ≡ line ∷ lines_at s l.next
  pub mends : line_mended region follow line ≡ line_laid s at follow l
  pub after : region_after region line.text ≡ l.region
  pub spans : Spans s at l.end l.next
  pub clean : all allowed (between s at l.end) ≡ l.clean
