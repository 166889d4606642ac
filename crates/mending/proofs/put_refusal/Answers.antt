-- `mending::put_refusal` meets its contract.
-- Assumes nothing.
use native.Mathlib.Omega.{arith}
use Rattle.mending.proofs.Mends.{words_short, words_put}
use Rattle.mending.proofs.put_refusal.Goals as goal

pub returns-then-list-words : goal.returns-then-list-words
returns-then-list-words c =
    let args = c.args in
    words_short args.words.now args.list.now c.if-list-words.true

pub returns : goal.returns
returns c =
    let args = c.args in
    words_put args.words.now args.list.now (omega (arith, c.if-list-words.false)) c.put_text.new.out c.put_text.ensures
