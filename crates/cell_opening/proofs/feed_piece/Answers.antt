-- `cell_opening::feed_piece` meets its contract: a piece is deciphered, and as many bytes of it come in as are wanted.
use mathlib.Core.Path.{refl}
use Rattle.cell_opening.proofs.TextCrc.{piece_length, piece_fed}
use Rattle.cell_opening.proofs.feed_piece.Goals as goal

pub slice_bounds-feed-end : goal.slice_bounds-feed-end
slice_bounds-feed-end c =
    piece_length _ _ _ _ _ c.decipher_blocks.ensures c.requires.0

pub returns : goal.returns
returns c =
    piece_fed _ _ _ _ _ _ _ c.decipher_blocks.ensures c.requires.0 refl c.requires.1 c.feed.ensures
