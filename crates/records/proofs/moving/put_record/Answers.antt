-- `records::moving::put_record` meets its contract: the fields are put where all of them lie within the book.
-- Assumes nothing.
use mathlib.Core.Path.{sym, ◌∙◌}
use Prim.Native.Nat.{◌+◌, ◌<◌}
use native.Mathlib.Omega.{arith}
use borrow.Author.Tests.{leb-true, leb-false}
use lib.ListN.{length}
use Rattle.text.proofs.PlacedTexts.{placed_beyond}
use Rattle.tenants.specs.Together.{in_book}
use Rattle.layout.specs.Layout.{two, record_size, record_place, record_bytes}
use Rattle.layout.proofs.Sizes.{record_size_lem}
use Rattle.records.proofs.moving.put_record.Goals as goal

pub put_fields-requires : goal.put_fields-requires
put_fields-requires c = leb-true _ _ (sym c.lies_within.ensures ∙ c.if-lies_within.true)

pub returns-then-lies_within : goal.returns-then-lies_within
returns-then-lies_within c = c.put_fields.ensures

pub returns-else-lies_within : goal.returns-else-lies_within
returns-else-lies_within c =
    let args = c.args in
    let beyond : length args.book.now < record_place args.i + record_size =
    leb-false _ _ (sym c.lies_within.ensures ∙ c.if-lies_within.false) in
    sym
    (placed_beyond (record_place args.i) (record_bytes (in_book args.tenant args.cell)) args.book.now
    (omega (arith, record_size_lem two (in_book args.tenant args.cell))))
