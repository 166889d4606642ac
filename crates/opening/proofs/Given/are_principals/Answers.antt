-- `opening::Given::are_principals` meets its contract. Assumes nothing.
use Rattle.std.proofs.Common.{refl, sym, ◌∙◌, Bool, ℕ, rules}
use Rattle.std.proofs.lemmas.Iterator.{YieldsList-from_range}
use Rattle.std.proofs.lemmas.Iterator.Search.{all_from_yields_List}
use Rattle.tenants.specs.Together.{is_principal}
use Rattle.layout.proofs.AllFrom.{all_listed, principals_each}
use Rattle.opening.specs.Opening.{first_setting, first_settings}
use Rattle.opening.proofs.Given.are_principals.Goals as goal

pub returns : goal.returns
returns c =
    let given = c.args.self.now in
    let settings = first_settings given.quotas given.ids given.principals in
    let test : ℕ → Bool = λ t. is_principal settings t (first_setting given.quotas given.ids given.principals t) in
    all_from_yields_List test _ _ _ c.all.ensures.ran (YieldsList-from_range 0 16 16 refl refl) (λ x b q k. search rules)
    ∙ all_listed test 0 16
    ∙ sym (principals_each settings _ 0 16)
