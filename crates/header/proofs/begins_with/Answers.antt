-- Of a text that is long enough the front is compared with the word, byte by byte.
use Rattle.std.proofs.Common.{ℕ, Bool, ◌∙◌, arith, eqb}
use Rattle.std.specs.List.{zip}
use Rattle.std.proofs.lemmas.Iterator.{YieldsList-from_slice, YieldsList-from_zip}
use Rattle.std.proofs.lemmas.Iterator.Search.{all_from_yields_List}
use borrow.Author.Rules.{rules}
use Rattle.header.proofs.WordLaws.{front_same, begins_short}
use Rattle.header.proofs.begins_with.Goals as goal

pub returns-then-word-s : goal.returns-then-word-s
returns-then-word-s c =
    let test : ℕ × ℕ → Bool = λ p. eqb p.0 p.1 in
    all_from_yields_List {all = zip c.args.word.now c.args.s.now} test c.all.new.self _ _ c.all.ensures.ran (YieldsList-from_zip (YieldsList-from_slice c.args.word.now cc) (YieldsList-from_slice c.args.s.now cc)) (λ x b q k. search rules)
    ∙ front_same c.args.word.now c.args.s.now c.if-word-s.true

pub returns-else-word-s : goal.returns-else-word-s
returns-else-word-s c = grind (arith, begins_short)
