-- `cell_file::last_block` meets its contract: the bytes that are added come after the carried ones.
use mathlib.Core.Path.{sym}
use Rattle.cell_file.proofs.LastBlock.{fill_length, fill_fits, fill_pads}
use Rattle.cell_file.proofs.last_block.Goals as goal

pub slice_bounds-gathered-end : goal.slice_bounds-gathered-end
slice_bounds-gathered-end c = sym (fill_length c.args.n c.args.x c.requires.0 c.requires.1)

pub gathered-requires : goal.gathered-requires
gathered-requires c = fill_fits c.args.n c.args.x c.requires.0 c.requires.1

pub returns : goal.returns
returns c =
    fill_pads c.args.n c.args.x c.requires.0 c.requires.1 _ c.gathered.ensures
