-- Laws of the text that a record is written back as: its parts, and how long they are.
-- Assumes nothing.
use Prim.Native.Nat.{ℕ, ◌+◌, ◌≤◌}
use native.Mathlib.Omega.{arith}
use mathlib.Core.Bool.{Bool, true, false, cond}
use mathlib.Core.List.{[], ◌∷◌, ◌++◌}
use mathlib.Core.Path.{◌≡◌, refl, sym}
use lib.ListN.{length, length-append}
use Rattle.reader.specs.Contact.{between}
use Rattle.rules.proofs.Tests.{never}
use Rattle.rules.specs.Fields.{new_mark, duplicate_mark}
use Rattle.rules.specs.Log.{crlf}
use Rattle.rules.specs.Text.{Text, semicolon}
use Rattle.writer.specs.RecordText.{says_duplicate, says_new, mark_text, marks_text, zero_text, record_text}

-- A field without its mark is its semicolon alone; with it, the mark follows.
pub unmarked : (m : Text) (b : Bool) → b ≡ false → mark_text b m ≡ semicolon ∷ []
unfolding mark_text
unmarked m false e = refl
unmarked m true e = never (sym e)

pub marked : (m : Text) (b : Bool) → b ≡ true → mark_text b m ≡ (semicolon ∷ []) ++ m
unfolding mark_text
marked m true e = refl
marked m false e = never e

-- The semicolon is there in any case.
pub mark_some : (b : Bool) (m : Text) → 1 ≤ length (mark_text b m)
unfolding mark_text
mark_some b m = omega arith

-- The points of a duplicate, which become 0, and those of any other record.
pub no_zero_lem : (b : Bool) → b ≡ false → zero_text b ≡ []
no_zero_lem false e = refl
no_zero_lem true e = never (sym e)

-- What is copied ends where the points begin or where they end.
module _ (start points pointsend : ℕ) (order : start ≤ points) (rise : points ≤ pointsend) where
  pub copied_behind : (duplicate : Bool) {to : ℕ} → to ≡ cond duplicate points pointsend → start ≤ to
  copied_behind true e = omega arith
  copied_behind false e = omega arith

  pub copied_inside : (duplicate : Bool) {to : ℕ} → to ≡ cond duplicate points pointsend → to ≤ pointsend
  copied_inside true e = omega arith
  copied_inside false e = omega arith

-- # Lengths

pub marks_length : (exchange square country duplicate : Bool)
    → length (marks_text exchange square country duplicate)
    ≡ length (mark_text exchange new_mark) + length (mark_text square new_mark) + length (mark_text country new_mark) + length (mark_text duplicate duplicate_mark) + 2
unfolding marks_text crlf
marks_length exchange square country duplicate = simp length-append

-- Each field of the four has room, behind those before it, where there is room for all.
module _ (exchange square country duplicate : Bool) (at n : ℕ) (fits : at + length (marks_text exchange square country duplicate) ≤ n) where
  pub room_exchange : at + length (mark_text exchange new_mark) ≤ n
  room_exchange = omega (arith, marks_length exchange square country duplicate)

  pub room_square : at + (length (mark_text exchange new_mark) + length (mark_text square new_mark)) ≤ n
  room_square = omega (arith, marks_length exchange square country duplicate)

  pub room_country : at + (length (mark_text exchange new_mark ++ mark_text square new_mark) + length (mark_text country new_mark)) ≤ n
  room_country = simp length-append (omega (arith, marks_length exchange square country duplicate))

  pub room_duplicate : at
      + (length (mark_text exchange new_mark ++ mark_text square new_mark ++ mark_text country new_mark) + length (mark_text duplicate duplicate_mark)) ≤ n
  room_duplicate = simp length-append (omega (arith, marks_length exchange square country duplicate))

  pub room_end : at
      + (length (mark_text exchange new_mark ++ mark_text square new_mark ++ mark_text country new_mark ++ mark_text duplicate duplicate_mark) + length crlf) ≤ n
  unfolding crlf
  room_end = simp length-append (omega (arith, marks_length exchange square country duplicate))

-- # The whole record, by whether it is a duplicate

module _ (s : Text) (start points pointsend n : ℕ) (duplicate : Bool) (to : ℕ) (isDuplicate : duplicate ≡ says_duplicate n) (isTo : to ≡ cond duplicate points pointsend) where
  abbrev pub marks : Text
  marks = marks_text (says_new 16 n) (says_new 32 n) (says_new 64 n) duplicate

  pub record_parts : record_text s start points pointsend n ≡ between s start to ++ zero_text duplicate ++ marks
  unfolding record_text
  record_parts = rw (isTo, isDuplicate)

  pub record_length : length (record_text s start points pointsend n) ≡ length (between s start to) + length (zero_text duplicate) + length marks
  record_length = rw record_parts (simp length-append)

  -- Each part has room, behind those before it, where there is room for all.
  module _ (at room : ℕ) (fits : at + length (record_text s start points pointsend n) ≤ room) where
    pub room_head : at + length (between s start to) ≤ room
    room_head = omega (arith, record_length)

    pub room_zero : at + (length (between s start to) + length (zero_text duplicate)) ≤ room
    room_zero = omega (arith, record_length)

    pub room_marks : at + (length (between s start to ++ zero_text duplicate) + length marks) ≤ room
    room_marks = simp length-append (omega (arith, record_length))
