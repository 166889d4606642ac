-- `records::moving::put_full_name` meets its contract: the tenant's byte and the name's bytes are those of the full name.
-- Assumes nothing.
use mathlib.Core.Path.{refl, ap, ◌∙◌}
use mathlib.Core.List.{List, [], ◌∷◌}
use Prim.Native.Nat.{ℕ, ◌+◌, ◌%◌}
use native.Mathlib.Omega.{arith}
use Rattle.octets.specs.Numbers.{bytes_of}
use Rattle.text.specs.Texts.{placed}
use Rattle.octets.proofs.Digits.{digits-length}
use Rattle.records.proofs.Writes.{full_name_bytes, two_put}
use Rattle.records.proofs.moving.put_full_name.Goals as goal

pub returns : goal.returns
returns c =
    let at : ℕ = c.args.at in
    let tenant : ℕ = c.args.tenant in
    let name : ℕ = c.args.name in
    two_put at (at + 1) (tenant % 256 ∷ []) (bytes_of 8 name) c.args.book.now c.put_text.new.out _
    c.put_text.ensures
    (c.put_text-2.ensures ∙ ap (λ (t : List ℕ). placed (at + 1) t c.put_text.new.out) c.bytes64-rest.ensures)
    refl (rw digits-length (omega (arith, c.requires)))
    ∙ ap (λ (t : List ℕ). placed at t c.args.book.now) (full_name_bytes tenant name (omega (arith, c.ranges.name)))
