-- Fields that are right, with CR LF behind them, are the record that is due; otherwise it is told why they are not.
use borrow.Author.Rules.{rules}
use Prim.Native.Nat.{ℕ}
use mathlib.Core.Path.{◌≡◌, sym, ap, ◌∙◌}
use Rattle.std.specs.Prelude.{Err}
use Rattle.rules.specs.Rules.{base}
use Rattle.reader.specs.Record.{broken_from, record_at}
use Rattle.reader.proofs.ParseLaws.{bad_due, base_fits, kept_due, late_due}
use Rattle.reader.proofs.record_at.Statement.{statement}
use Rattle.reader.proofs.record_at.Lts.{in-Err, in-Ok+else-line_ends}
use Rattle.reader.proofs.record_at.Tie as tie

parse_requires : tie.Need-parse-requires
parse_requires c κs = search rules

enum_known_bad : tie.Need-enum_known-bad
enum_known_bad c = search rules

enum_known_c : tie.Need-enum_known-c
enum_known_c c = search rules

line_ends_requires : tie.Need-line_ends-requires
line_ends_requires c κs = search rules

returns : tie.Need-returns-then-line_ends
returns c = kept_due base _ _ base_fits (sym c.parse.ensures ∙ c.in-Ok.is) (sym c.line_ends.ensures ∙ c.if-line_ends.true)

broken_at_requires : tie.Need-broken_at-requires
broken_at_requires c κs = search rules

-- Two ways lead here: a bad field, and fields that are right with something else behind them.
returns_2 : tie.Need-returns
returns_2 c =
    let a = c.args in
    let told : Err (broken_from base a.s.now a.at c.match-parse.field) ≡ record_at base a.s.now a.at =
    elim c.match-parse.branch [
      | in-Err w ↦ ap (λ (f : ℕ). Err (broken_from base a.s.now a.at f)) w.field-is ∙ bad_due base _ _ (sym c.parse.ensures ∙ w.in-Err.is)
      | in-Ok+else-line_ends w ↦
          ap (λ (f : ℕ). Err (broken_from base a.s.now a.at f)) w.field-is
          ∙ late_due base _ _ (sym c.parse.ensures ∙ w.in-Ok.is) (sym w.line_ends.ensures ∙ w.if-line_ends.false)
    ] in
    ap Err c.broken_at.ensures ∙ told

pub record_at_spec : {M : Type 1} → statement M
record_at_spec =
    tie.close
    (tie.spec
    parse_requires
    enum_known_bad
    enum_known_c
    line_ends_requires
    returns
    broken_at_requires
    returns_2)
