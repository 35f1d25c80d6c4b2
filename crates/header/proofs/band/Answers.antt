-- Any of the fifteen names is the text where the text is among them.
use Rattle.std.proofs.Common.{◌≡◌, ℕ, List, Bool, ◌∙◌, ap}
use Rattle.std.specs.Io.BufRead.{strip_last}
use Rattle.std.specs.List.{list_any}
use Rattle.std.specs.Slice.Iter.{iter_rest}
use Rattle.std.proofs.lemmas.Iterator.{YieldsList-from_slice}
use Rattle.std.proofs.lemmas.Iterator.Search.{any_from_yields_List}
use borrow.Author.Rules.{rules}
use Rattle.rules.specs.Arguments.{among, meets}
use Rattle.rules.specs.Rules.{base, band_names}
use Rattle.rules.specs.Text.{same}
use Rattle.header.proofs.band.Goals as goal

pub returns : goal.returns
unfolding meets base among band_names
returns c =
    let test : List ℕ → Bool = λ n. same (strip_last 32 n) c.args.t.now in
    let walked : c.any.result ≡ list_any test (iter_rest c.iter.result) = any_from_yields_List {all = iter_rest c.iter.result} test _ _ _ c.any.ensures.ran (YieldsList-from_slice (iter_rest c.iter.result) cc) (λ x b q k. search rules) in
    walked ∙ ap (list_any test) c.iter.ensures.rest
