-- `file_lines::words_passed` meets its contract: each byte of a word that is passed is beyond CR.
-- Assumes nothing.
use Rattle.std.proofs.Common.{◌<◌, get_or, EachIndex, arith, rules, tests}
use Rattle.std.proofs.lemmas.Iterator.{IsFirst-from_position, YieldsList-from_slice}
use Rattle.file_lines.proofs.Fronts.{front_passed}
use Rattle.file_lines.proofs.words_passed.Goals as goal

pub returns : goal.returns
returns c =
    let words = c.as_chunks.result.0.now in
    let chunks = c.as_chunks.ensures in
    let first = IsFirst-from_position _ _ c.position.result (λ w. Unit {0}) (λ w. EachIndex w (λ k. 13 < get_or w k 0)) c.position.ensures.ran (YieldsList-from_slice words cc)
    (λ x q k. tt) (λ x q k. search (rules, tests)) in
    front_passed (λ b. 13 < b) 8 c.unwrap_or.result c.args.rest.now words c.position.result chunks.front chunks.front_len (omega arith) c.unwrap_or.ensures first
