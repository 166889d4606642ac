-- `file_lines::texts::blocks_passed` meets its contract: no byte of a block that is passed is LF.
-- Assumes nothing.
use Rattle.std.proofs.Common.{◌≡◌, false, get_or, EachIndex, arith, rules, tests}
use Rattle.std.proofs.lemmas.Iterator.{IsFirst-from_position, YieldsList-from_slice}
use Rattle.file_lines.specs.Texts.{is_lf}
use Rattle.file_lines.proofs.Fronts.{front_passed}
use Rattle.file_lines.proofs.texts.blocks_passed.Goals as goal

pub returns : goal.returns
returns c =
    let blocks = c.as_chunks.result.0.now in
    let chunks = c.as_chunks.ensures in
    let first = IsFirst-from_position _ _ c.position.result (λ w. Unit {0}) (λ w. EachIndex w (λ k. is_lf (get_or w k 0) ≡ false)) c.position.ensures.ran (YieldsList-from_slice blocks cc)
    (λ x q k. tt) (λ x q k. search (rules, tests)) in
    front_passed (λ b. is_lf b ≡ false) 64 c.unwrap_or.result c.args.rest.now blocks c.position.result chunks.front chunks.front_len (omega arith) c.unwrap_or.ensures first
