-- What the desk program writes of a log, in whole.
-- Assumes nothing.
use Rattle.std.specs.Prelude.{ℕ, ◌++◌}
use Prim.Native.String.{String}
use Rattle.rules.specs.declared.Refusal.{Refusal}
use Rattle.rules.specs.declared.Modes.{Modes}
use Rattle.rules.specs.declared.Totals.{Totals}
use Rattle.rules.specs.Text.{Text, bytes, digits}
use Rattle.rules.specs.Rules.{Rules}
use Rattle.rules.specs.Answers.{Judgement, judged, unjudged, judge}

-- A word and a number on a line.
unfoldable pub shown_line : String → ℕ → Text
unfolding digits
shown_line word n = bytes word ++ bytes " " ++ digits n ++ bytes "\n"

-- W4: "The program prints them after TOTAL, codes 0 to 9 and then blank, as `MODE 0 n` and `MODE - n`."
unfoldable pub shown_modes : Modes → Text
unfolding shown_line
shown_modes m =
    shown_line "MODE 0" m.code0
    ++ shown_line "MODE 1" m.code1
    ++ shown_line "MODE 2" m.code2
    ++ shown_line "MODE 3" m.code3
    ++ shown_line "MODE 4" m.code4
    ++ shown_line "MODE 5" m.code5
    ++ shown_line "MODE 6" m.code6
    ++ shown_line "MODE 7" m.code7
    ++ shown_line "MODE 8" m.code8
    ++ shown_line "MODE 9" m.code9
    ++ shown_line "MODE -" m.blank

unfoldable pub shown_totals : Totals → Text
unfolding shown_line shown_modes
shown_totals t =
    shown_line "QSOS" t.credited
    ++ shown_line "POINTS" t.points
    ++ shown_line "WWLS" t.squares
    ++ shown_line "EXCHANGES" t.exchanges
    ++ shown_line "DXCCS" t.countries
    ++ shown_line "TOTAL" t.total
    ++ shown_modes t.modes

-- "For a refusal it writes one line, as `REFUSED 2 1 0`: number, line, field."
unfoldable pub shown_refusal : Refusal → Text
unfolding digits
shown_refusal r =
    bytes "REFUSED " ++ digits r.number ++ bytes " " ++ digits r.line ++ bytes " " ++ digits r.field ++ bytes "\n"

unfoldable pub shown : Judgement → Text
unfolding shown_totals shown_refusal
shown (judged t vs) = shown_totals t
shown (unjudged r) = shown_refusal r

-- The program lends as many verdicts as a log has records at the most.
unfoldable pub desk : Rules → Text → Text
unfolding shown judge
desk R s = shown (judge R R.most_records s)
