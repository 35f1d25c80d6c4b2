-- The table of cases: those of document 01 that it stars, with its numbers, and our own beside them; then those of the mender, of the session and of the link.
-- Assumes nothing.
use Rattle.std.specs.Prelude.{List, ◌++◌}
use Rattle.rules.specs.Cases.{Case}
use Rattle.rules.specs.TableArguments.{line_cases, argument_cases, argument_character_cases, band_cases, keyword_cases, due_cases, spelling_cases}
use Rattle.rules.specs.TableFields.{field_cases, field_character_cases, calendar_cases}
use Rattle.rules.specs.TableLogs.{case12_cases, reading_cases, lending_cases, old_spelling_cases, square_cases, wrong_turn_cases, second_try_cases, mode_cases, wide_cases, striking_cases, sameness_cases, value_cases, limit_cases}
use Rattle.rules.specs.TableMending.{line_end_cases, space_cases, count_cases, place_cases, mended_cases, mending_refused_cases, mending_room_cases, mending_limit_cases}
use Rattle.rules.specs.TableLink.{cut_cases, link_refused_cases, link_lent_cases}
use Rattle.rules.specs.TableSession.{taking_cases, giving_cases, session_refused_cases}

unfoldable pub table : List Case
table =
    line_cases
    ++ argument_cases
    ++ argument_character_cases
    ++ band_cases
    ++ keyword_cases
    ++ due_cases
    ++ spelling_cases
    ++ field_cases
    ++ field_character_cases
    ++ calendar_cases
    ++ case12_cases
    ++ reading_cases
    ++ lending_cases
    ++ old_spelling_cases
    ++ square_cases
    ++ wrong_turn_cases
    ++ second_try_cases
    ++ mode_cases
    ++ wide_cases
    ++ striking_cases
    ++ sameness_cases
    ++ value_cases
    ++ limit_cases
    ++ line_end_cases
    ++ space_cases
    ++ count_cases
    ++ place_cases
    ++ mended_cases
    ++ mending_refused_cases
    ++ mending_room_cases
    ++ mending_limit_cases
    ++ taking_cases
    ++ giving_cases
    ++ session_refused_cases
    ++ cut_cases
    ++ link_refused_cases
    ++ link_lent_cases
