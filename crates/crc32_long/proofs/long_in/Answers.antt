-- `crc32_long::long_in` meets its contract: the whole sixteens, then the bytes after them.
use Rattle.std.proofs.Common.{◌/◌, length, ◌∙◌, arith}
use Rattle.crc32_long.proofs.Sixteens.{long_fed}
use Rattle.crc32_long.proofs.long_in.Goals as goal

pub returns : goal.returns
returns c =
    let s = c.args.s.now in
    let chunks = c.as_chunks in
    c.feed.ensures
    ∙ long_fed (length s / 16) c.args.state s (omega arith) chunks.ensures.front chunks.ensures.back c.begun.ensures (c.four_in.ensures ∙ c.streams_in-x.ensures)
