-- `file_lines::texts::text_length` meets its contract: LF is not in what is passed, and the first of the rest ends the text.
-- Assumes nothing.
use Rattle.std.proofs.Common.{◌≡◌, ◌+◌, ◌-◌, ◌<◌, length, slice_range, get_or, drop, length-drop, drop-drop, arith, ap, ne_eqb, true, false, rules, tests}
use Rattle.std.specs.Option.{unwrap_or}
use Rattle.std.proofs.lemmas.Iterator.{IsFirst-from_position, YieldsList-from_slice}
use Rattle.file_lines.specs.Texts.{is_lf, text_length}
use Rattle.file_lines.proofs.Fronts.{to_end}
use Rattle.file_lines.proofs.TextEnds.{passed_bytes, first_lf}
use Rattle.file_lines.proofs.texts.text_length.Goals as goal

pub returns : goal.returns
returns c =
    let s = c.args.rest.now in
    let n = c.blocks_passed-blocks.result in
    let m = c.words_passed.result in
    let t = slice_range s n (length s) in
    let u = slice_range s (n + m) (length s) in
    let after : t ≡ drop n s = to_end s n in
    let last : u ≡ drop (n + m) s = to_end s (n + m) in
    let on = passed_bytes n s c.blocks_passed-blocks.ensures.0 c.blocks_passed-blocks.ensures.1 in
    let past = passed_bytes m t c.words_passed.ensures.0 (λ k lt. let high : 13 < get_or t k 0 = c.words_passed.ensures.1 k lt in ne_eqb (get_or t k 0) 10 (omega arith)) in
    let joined : drop m t ≡ u = rw (after, last) (drop-drop m n s) in
    let found = IsFirst-from_position _ _ _ (λ b. is_lf b ≡ true) (λ b. is_lf b ≡ false) c.position.ensures.ran (YieldsList-from_slice u cc)
    (λ x q k. search (rules, tests)) (λ x q k. search (rules, tests)) in
    let size : length u ≡ length s - (n + m) = rw last (length-drop (n + m) s) in
    let left : c.unwrap_or.result ≡ unwrap_or c.position.result (length u) = rw size c.unwrap_or.ensures in
    omega (arith, on, past, ap text_length after, ap text_length joined, first_lf u c.position.result found, left)
