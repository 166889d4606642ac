-- `records::moving::put_fields` meets its contract: the full name, the edition, and what fills up the record.
-- Assumes nothing.
use mathlib.Core.Path.{ap, ◌∙◌}
use mathlib.Core.List.{List, ◌++◌}
use Prim.Native.Nat.{ℕ, ◌+◌}
use native.Mathlib.Omega.{arith}
use lib.ListN.{length-append}
use Rattle.octets.specs.Numbers.{bytes_of}
use Rattle.text.specs.Texts.{placed}
use Rattle.octets.proofs.Digits.{digits-length, digits_of_low}
use Rattle.tenants.specs.declared.Held.{Held}
use Rattle.tenants.specs.Together.{full_name}
use Rattle.layout.specs.Layout.{record_bytes_by, zeros}
use Rattle.records.proofs.Writes.{three_put}
use Rattle.records.proofs.moving.put_fields.Goals as goal

pub returns : goal.returns
unfolding record_bytes_by
returns c =
    let at : ℕ = c.args.at in
    let tenant : ℕ = c.args.tenant in
    let cell : Held = c.args.cell in
    three_put at (at + 9) (bytes_of 9 (full_name tenant cell.name)) (bytes_of 2 cell.edition)
    c.args.book.now c.put_full_name.new.book c.put_text.new.out
    c.put_full_name.ensures
    (c.put_text.ensures ∙ ap (λ (t : List ℕ). placed (at + 9) t c.put_full_name.new.book) (c.bytes16-edition.ensures ∙ digits_of_low 256 2 cell.edition (omega arith)))
    (at + 11) (bytes_of 5 cell.key1 ++ (bytes_of 5 cell.key2 ++ (zeros 3 ++ bytes_of 4 cell.last))) _ c.put_keys.ensures
    (rw digits-length) (rw digits-length (omega arith)) (simp (digits-length, length-append) (omega (arith, c.requires)))
