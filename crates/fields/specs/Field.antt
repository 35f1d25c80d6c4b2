-- What each reader answers of the field at a place of a line: where it ends, with what it holds, if it keeps its rule; else nothing.
-- Assumes nothing.
use Rattle.std.specs.Prelude.{ℕ, ◌+◌, Bool, cond, not, [], ◌∷◌, eqb, length, take, drop, Option, Some, None}
use Rattle.rules.specs.Fields.{call, error_call, mode, report, serial, exchange, locator, empty_or}
use Rattle.rules.specs.Rules.{Rules}
use Rattle.rules.specs.Text.{Text, semicolon, span, same, empty}
use Rattle.fields.specs.declared.CallField.{CallField}
use Rattle.fields.specs.declared.MarkField.{MarkField}

-- No semicolon.
abbrev pub in_field : ℕ → Bool
in_field c = not (eqb c semicolon)

-- Every character but one.
abbrev pub other_than : ℕ → ℕ → Bool
other_than b c = not (eqb c b)

-- The field: the text up to the next semicolon, from a place of a line on.
unfoldable pub text_at : Text → ℕ → Text
unfolding span
text_at s at = take (span in_field (drop at s)) (drop at s)

-- Nothing of the field is left at this place.
unfoldable pub ends_at : Text → ℕ → Bool
unfolding text_at
ends_at s at = empty (text_at s at)

-- The place behind the field.
unfoldable pub end_of : Text → ℕ → ℕ
unfolding text_at
end_of s at = at + length (text_at s at)

-- Where a field ends that keeps a rule.
unfoldable pub end_by : (Text → Bool) → Text → ℕ → Option ℕ
unfolding text_at end_of
end_by rule s at = cond (rule (text_at s at)) (Some (end_of s at)) None

abbrev pub mode_at : Text → ℕ → Option ℕ
mode_at = end_by mode

abbrev pub report_at : Text → ℕ → Option ℕ
report_at = end_by report

abbrev pub serial_at : Text → ℕ → Option ℕ
serial_at = end_by serial

abbrev pub exchange_at : Rules → Text → ℕ → Option ℕ
exchange_at R = end_by (exchange R)

abbrev pub locator_at : Text → ℕ → Option ℕ
locator_at = end_by locator

abbrev pub locator_or_empty_at : Text → ℕ → Option ℕ
locator_or_empty_at = end_by (empty_or locator)

-- Where a field ends that keeps a rule of calls, and whether it is `ERROR`.
unfoldable pub call_by : (Text → Bool) → Text → ℕ → Option CallField
unfolding text_at end_of same error_call
call_by rule s at =
    cond (rule (text_at s at)) (Some (record { end = end_of s at; error = same (text_at s at) error_call })) None

abbrev pub call_at : Text → ℕ → Option CallField
call_at = call_by call

abbrev pub call_or_empty_at : Text → ℕ → Option CallField
call_or_empty_at = call_by (empty_or call)

-- A mark of this letter, and whether it is set.
unfoldable pub mark_at : ℕ → Text → ℕ → Option MarkField
unfolding text_at end_of empty_or same
mark_at letter s at =
    cond (empty_or (same (letter ∷ [])) (text_at s at)) (Some (record { end = end_of s at; set = not (empty (text_at s at)) })) None
