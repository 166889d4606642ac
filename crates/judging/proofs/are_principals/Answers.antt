-- `judging::are_principals` meets its contract. Assumes nothing.
use Rattle.std.proofs.Common.{refl, ◌∙◌, rules}
use Rattle.std.proofs.lemmas.Iterator.{YieldsList-from_range}
use Rattle.std.proofs.lemmas.Iterator.Search.{all_from_yields_List}
use Rattle.judging.specs.Judging.{principal_test, principals_test}
use Rattle.layout.proofs.AllFrom.{all_listed}
use Rattle.judging.proofs.are_principals.Goals as goal

pub returns : goal.returns
unfolding principals_test
returns c =
    let book = c.args.book.now in
    all_from_yields_List (principal_test book) _ _ _ c.all.ensures.ran (YieldsList-from_range 0 16 16 refl refl) (λ x b q k. search rules)
    ∙ all_listed (principal_test book) 0 16
