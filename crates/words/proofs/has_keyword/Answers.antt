-- A line has the keyword in the listed spelling and in any other.
use Rattle.std.proofs.Common.{sym, ◌∙◌}
use Rattle.words.proofs.KeywordLaws.{keyword_had, keyword_told}
use Rattle.words.proofs.has_keyword.Goals as goal

pub returns-in-Listed : goal.returns-in-Listed
returns-in-Listed c = keyword_had _ _ c.keyword.ensures c.in-Listed.is

pub returns-in_default : goal.returns-in_default
returns-in_default c = keyword_told _ _ _ (sym c.keyword.ensures ∙ c.in_default.is)
