-- Every case of the tables comes out as it says, and each of the 36 keywords names itself.
-- Assumes nothing.
use mathlib.Core.List.{map}
use mathlib.Core.Path.{◌≡◌, refl}
use Rattle.rules.specs.Rules.{Rules}
use Rattle.words.specs.Cases.{mark_cases, marked_on, marked_as, keyword_cases, named_on, named_as}
use Rattle.words.specs.Words.{EachNamesItself}

pub marks_hold : map marked_on mark_cases ≡ map marked_as mark_cases
unfolding mark_cases marked_on marked_as
marks_hold = refl

pub keywords_hold : map named_on keyword_cases ≡ map named_as keyword_cases
unfolding keyword_cases named_on named_as
keywords_hold = refl

pub each_names_itself : (R : Rules) → EachNamesItself R
unfolding EachNamesItself
each_names_itself R = refl
