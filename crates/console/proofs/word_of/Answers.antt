-- The word by the class is that by the class's number, which is its place among the classes.
use denote.Enum.Declared.{tag_of}
use Rattle.std.proofs.Common.{◌%◌, ◌≡◌, refl, ap, ◌∙◌}
use Rattle.rules.specs.contracts.Class.{the_type}
use Rattle.rules.specs.declared.Class.{Class}
use Rattle.rules.specs.declared.Class.TheVariants.{Credited, Void, Duplicate, Error}
use Rattle.rules.specs.Judging.{class_number}
use Rattle.console.specs.Words.{class_word}
use Rattle.console.proofs.word_of.Goals as goal

place : (class : Class) → tag_of the_type class % 4 ≡ class_number class
unfolding class_number
place Credited = refl
place Void = refl
place Duplicate = refl
place Error = refl

pub returns : goal.returns
returns c = c.class_word.ensures ∙ ap class_word (place c.args.class)
