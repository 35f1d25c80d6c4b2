-- What is handed out is the word at this place of the paper's table.
use Rattle.std.proofs.Common.{◌≡◌, ◌<◌, ◌≤◌, arith, ◌∙◌, get_or}
use Rattle.rules.specs.Arguments.{entries}
use Rattle.rules.specs.Log.{keyword_start, keywords_of}
use Rattle.header.proofs.TableLaws.{words, listed_within, listed_beyond}
use Rattle.header.proofs.listed.Goals as goal

pub returns-in-Some : goal.returns-in-Some
unfolding entries keywords_of keyword_start
returns-in-Some c =
    let place : c.args.k < 36 = omega (arith, c.in-Some.ensures.lookup) in
    let word : c.in-Some.word.now ≡ get_or words c.args.k c.in-Some.word.now = c.in-Some.ensures.lookup.1 in
    word ∙ listed_within _ place _

pub returns-in-None : goal.returns-in-None
returns-in-None c =
    let place : 36 ≤ c.args.k = omega (arith, c.in-None.ensures.lookup) in
    listed_beyond _ place
