-- The table is walked up to the keyword that the word is.
use Rattle.std.proofs.Common.{rules, ◌≡◌, length, refl, sym, ◌∙◌}
use Rattle.words.proofs.KeywordLaws.{five_line, keyword_here, keyword_later, keyword_none}
use Rattle.words.proofs.keyword_number.Goals as goal

pub loop-k-init : goal.loop-k-init
loop-k-init c = refl

pub returns-then-has_keyword : goal.returns-then-has_keyword
returns-then-has_keyword c =
    let five : length c.args.word.now ≡ 5 = search rules in
    sym (c.loop-k.invariant ∙ keyword_here _ five (five_line _ five) c.loop-k.k (sym c.has_keyword.ensures ∙ c.if-has_keyword.true))

pub loop-k-preserved : goal.loop-k-preserved
loop-k-preserved c =
    let five : length c.args.word.now ≡ 5 = search rules in
    c.loop-k.invariant ∙ keyword_later _ five (five_line _ five) c.loop-k.k (sym c.has_keyword.ensures ∙ c.if-has_keyword.false)

pub returns : goal.returns
returns c = sym (c.loop-k.invariant ∙ keyword_none _ _ c.loop-k.k (search rules))
