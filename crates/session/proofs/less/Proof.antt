-- Each sum is less by what is taken off it, which it holds.
use mathlib.Core.Path.{refl}
use Rattle.session.specs.Session.{less_tally}
use Rattle.session.proofs.SessionLaws.{Holds, holds_facts}
use Rattle.session.proofs.less.Statement.{statement}
use Rattle.session.proofs.less.Tie as tie

-- Where the code begins, from where each pair of sums is read, and what is known there.
abbrev pair1 : tie.After-struct_known-2-1 → tie.Start
pair1 c = c.before.before

abbrev pair2 : tie.After-struct_known-4-1 → tie.Start
pair2 c = pair1 c.before.before

abbrev pair3 : tie.After-struct_known-6-1 → tie.Start
pair3 c = pair2 c.before.before

abbrev pair4 : tie.After-struct_known-8-1 → tie.Start
pair4 c = pair3 c.before.before

abbrev pair5 : tie.After-struct_known-10-1 → tie.Start
pair5 c = pair4 c.before.before

abbrev pair6 : tie.After-struct_known-12-1 → tie.Start
pair6 c = pair5 c.before.before

abbrev pair7 : tie.After-struct_known-14-1 → tie.Start
pair7 c = pair6 c.before.before

abbrev pair8 : tie.After-struct_known-16-1 → tie.Start
pair8 c = pair7 c.before.before

facts : (c : tie.Start) → Holds c.args.b c.args.t
facts c = holds_facts c.args.b c.args.t c.requires

returns : tie.Need-returns
unfolding less_tally
returns c = refl

answer_1 : tie.Need-overflow_sub-result
answer_1 c = (facts (pair1 c)).credited

answer_2 : tie.Need-overflow_sub-result-2
answer_2 c = (facts (pair2 c)).voids

answer_3 : tie.Need-overflow_sub-result-3
answer_3 c = (facts (pair3 c)).duplicates

answer_4 : tie.Need-overflow_sub-result-4
answer_4 c = (facts (pair4 c)).errors

answer_5 : tie.Need-overflow_sub-result-5
answer_5 c = (facts (pair5 c)).points

answer_6 : tie.Need-overflow_sub-result-6
answer_6 c = (facts (pair6 c)).squares

answer_7 : tie.Need-overflow_sub-result-7
answer_7 c = (facts (pair7 c)).exchanges

answer_8 : tie.Need-overflow_sub-result-8
answer_8 c = (facts (pair8 c)).countries

pub less_spec : {M : Type 1} → statement M
less_spec =
    tie.close
    (tie.spec
    answer_1
    answer_2
    answer_3
    answer_4
    answer_5
    answer_6
    answer_7
    answer_8
    returns)
