-- `mailed_lines::is_raised` meets its contract.
-- Assumes nothing.
use Rattle.std.proofs.Common.{ℕ, eqb, ◌∙◌, rules, tests}
use Rattle.std.proofs.lemmas.Iterator.{YieldsList-from_slice}
use Rattle.std.proofs.lemmas.Iterator.Search.{all_from_yields_List}
use Rattle.text.specs.Characters.{raised}
use Rattle.mailed_lines.proofs.Lengths.{raised_all}
use Rattle.mailed_lines.proofs.is_raised.Goals as goal

pub returns : goal.returns
returns c =
    all_from_yields_List (λ (k : ℕ). eqb (raised k) k) _ _ _ c.all.ensures.ran (YieldsList-from_slice c.args.line.now (cc)) (λ x b q k. search (rules, tests))
    ∙ raised_all c.args.line.now
