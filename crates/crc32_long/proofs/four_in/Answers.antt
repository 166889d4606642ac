-- `crc32_long::four_in` meets its contract: sixteen bytes are four words.
use Rattle.std.proofs.Common.{ap, ◌∙◌, arith}
use Rattle.crc32.specs.Crc32.{feed_all}
use Rattle.crc32_long.proofs.Sixteens.{four_bytes}
use Rattle.crc32_long.proofs.four_in.Goals as goal

pub returns : goal.returns
returns c =
    let x = c.args.x in
    c.feed.ensures
    ∙ ap (feed_all 0) c.as_flattened.ensures.value
    ∙ cc (c.to_le_bytes.ensures, c.to_le_bytes-2.ensures, c.to_le_bytes-3.ensures, c.to_le_bytes-4.ensures, four_bytes x.a x.b x.c x.d (omega arith) (omega arith) (omega arith) (omega arith))
