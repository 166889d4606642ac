-- `cell_file::cell_words` meets its contract: five bytes are a key.
use Rattle.cell_file.proofs.Keys.{five_bytes}
use Rattle.cell_file.proofs.cell_words.Goals as goal

pub returns : goal.returns
returns c =
    five_bytes _ _ _ _ c.bytes40-bytes.ensures c.key_schedule.ensures.1
