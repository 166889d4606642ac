-- `cell_file::encipher_part` meets its contract.
use mathlib.Core.Path.{sym, ◌∙◌}
use native.Mathlib.Omega.{arith}
use Rattle.cell_file.proofs.Calls.{carried_says}
use Rattle.cell_file.proofs.PartCalls.{few_fit, part_kept, left_fits, part_wrote}
use Rattle.cell_file.proofs.encipher_part.Goals as goal

pub gathered-requires : goal.gathered-requires
gathered-requires c =
    let says = carried_says _ _ (sym c.is_carried.ensures ∙ c.if-not-is_carried.false) in
    few_fit _ _ c.args.part.now says.0 says.1 (omega arith)

pub returns-then-whole-eq0 : goal.returns-then-whole-eq0
returns-then-whole-eq0 c =
    let carried = sym c.is_carried.ensures ∙ c.if-not-is_carried.false in
    let says = carried_says _ _ carried in
    part_kept _ _ _ says.0 says.1 (omega arith) _ _ _ (omega arith) (omega arith) carried c.gathered.ensures

pub put_part-requires : goal.put_part-requires
put_part-requires c =
    (carried_says _ _ (sym c.is_carried.ensures ∙ c.if-not-is_carried.false), (omega arith, omega arith))

pub overflow_sub-rest : goal.overflow_sub-rest
overflow_sub-rest c =
    let says = carried_says _ _ (sym c.is_carried.ensures ∙ c.if-not-is_carried.false) in
    omega (arith, says.0)

pub gathered-requires-2 : goal.gathered-requires-2
gathered-requires-2 c =
    let says = carried_says _ _ (sym c.is_carried.ensures ∙ c.if-not-is_carried.false) in
    left_fits _ _ c.args.part.now says.0 says.1 (omega arith)

pub returns : goal.returns
returns c =
    let carried = sym c.is_carried.ensures ∙ c.if-not-is_carried.false in
    let says = carried_says _ _ carried in
    part_wrote _ _ _ says.0 says.1 (omega arith) _ _ _ _ _ (omega arith) (omega arith) carried (omega arith)
    c.cell_words.ensures c.put_part.ensures c.gathered-2.ensures
