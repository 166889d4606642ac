-- `records::moving::put_keys` meets its contract: two keys, the zeros and the last expiry.
-- Assumes nothing.
use mathlib.Core.Path.{◌≡◌, ap, ◌∙◌}
use mathlib.Core.List.{List, ◌++◌}
use Prim.Native.Nat.{ℕ, ◌+◌}
use native.Mathlib.Omega.{arith}
use lib.ListN.{length}
use Rattle.octets.specs.Numbers.{bytes_of}
use Rattle.text.specs.Texts.{placed}
use Rattle.text.proofs.PlacedTexts.{length-placed}
use Rattle.octets.proofs.Digits.{digits-length}
use Rattle.layout.specs.Layout.{zeros}
use Rattle.records.proofs.Writes.{two_put, three_put}
use Rattle.records.proofs.moving.put_keys.Goals as goal

pub returns : goal.returns
returns c =
    let at : ℕ = c.args.at in
    let key1 : ℕ = c.args.cell.key1 in
    let key2 : ℕ = c.args.cell.key2 in
    let last : ℕ = c.args.cell.last in
    let size : length c.put_text-2.new.out ≡ length c.args.book.now =
    ap length c.put_text-2.ensures ∙ length-placed _ _ _ ∙ ap length c.put_text.ensures ∙ length-placed _ _ _ in
    three_put at (at + 5) (bytes_of 5 key1) (bytes_of 5 key2) c.args.book.now c.put_text.new.out c.put_text-2.new.out
    (c.put_text.ensures ∙ ap (λ (t : List ℕ). placed at t c.args.book.now) c.bytes40-one.ensures)
    (c.put_text-2.ensures ∙ ap (λ (t : List ℕ). placed (at + 5) t c.put_text.new.out) c.bytes40-two.ensures)
    (at + 10) (zeros 3 ++ bytes_of 4 last) _
    (two_put (at + 10) (at + 13) (zeros 3) (bytes_of 4 last) c.put_text-2.new.out c.put_text-3.new.out _
    c.put_text-3.ensures
    (c.put_text-4.ensures ∙ ap (λ (t : List ℕ). placed (at + 13) t c.put_text-3.new.out) c.bytes32-ending.ensures)
    (omega arith) (simp digits-length (omega arith)))
    (rw digits-length) (rw digits-length (omega arith)) (simp digits-length (omega (arith, c.requires)))
