-- CR LF are looked for at the front of what stands there, and do not stand behind the end.
use Rattle.std.proofs.Common.{◌≡◌, ◌≤◌, ◌-◌, ◌∙◌, ap, arith, take, drop, length, length-drop, false}
use lib.Dec.{leb}
use Rattle.std.proofs.lemmas.List.{take_all}
use Rattle.rules.specs.Log.{crlf}
use Rattle.rules.specs.Text.{begins}
use Rattle.header.proofs.WordLaws.{begins_by}
use Rattle.reader.proofs.LineLaws.{ends_behind}
use Rattle.reader.proofs.line_ends.Goals as goal

pub returns-then-at-s : goal.returns-then-at-s
unfolding crlf
returns-then-at-s c =
    let s = c.args.s.now in
    let rest = take (length s - c.args.at) (drop c.args.at s) in
    let all : rest ≡ drop c.args.at s = take_all (length s - c.args.at) (drop c.args.at s) (omega (arith, length-drop c.args.at s)) in
    c.starts_with.ensures.value ∙ begins_by crlf rest ∙ ap (begins crlf) all

pub returns-else-at-s : goal.returns-else-at-s
returns-else-at-s c =
    let behind : length c.args.s.now ≤ c.args.at = omega arith in
    let no : leb c.args.at (length c.args.s.now) ≡ false = grind arith in
    no ∙ ends_behind c.args.s.now c.args.at behind
