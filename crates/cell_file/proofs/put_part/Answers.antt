-- `cell_file::put_part` meets its contract: the first block has the carried bytes in it, and those after it are the part's own.
use mathlib.Core.Path.{sym, ap, ◌∙◌}
use native.Mathlib.Omega.{arith}
use Rattle.octets.specs.Numbers.{bytes_of}
use Rattle.cell_file.proofs.PartCalls.{head_length, head_fits, part_put}
use Rattle.cell_file.proofs.put_part.Goals as goal

pub slice_bounds-gathered-length : goal.slice_bounds-gathered-length
slice_bounds-gathered-length c =
    sym (head_length c.args.n c.args.x c.args.part.now c.requires.0.0 c.requires.0.1 c.requires.1.0)

pub gathered-requires : goal.gathered-requires
gathered-requires c =
    head_fits c.args.n c.args.x c.args.part.now c.requires.0.0 c.requires.0.1 c.requires.1.0

pub returns : goal.returns
returns c =
    part_put c.args.n c.args.x c.args.part.now c.requires.0.0 c.requires.0.1 c.requires.1.0
    (λ i. omega (arith, c.type_inv.part i)) _ c.gathered.ensures _ _ _ _ _ c.requires.1.1
    (c.bytes64.ensures ∙ ap (bytes_of 8) c.encipher-first.ensures)
    c.put_text.ensures
    c.encipher_blocks.ensures
