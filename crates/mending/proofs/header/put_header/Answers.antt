-- `mending::header::put_header` meets its contract: the three lines, one after the other.
-- Assumes nothing.
use native.Mathlib.Omega.{arith}
use borrow.Author.Rules.{rules}
use Rattle.mending.proofs.HeaderTexts.{ends_rise}
use Rattle.mending.proofs.HeaderPuts.{room_one, room-two, room-three, all-put}
use Rattle.mending.proofs.header.put_header.Goals as goal

pub put_one-one-requires : goal.put_one-one-requires
put_one-one-requires c =
    let args = c.args in
    let rise = ends_rise args.file.now args.e c.requires.file_value in
    record { from_le_to = (omega arith, omega (arith, rise)); room = room_one args.file.now args.e args.out.now args.list.now c.requires.takes }

pub overflow_add-e : goal.overflow_add-e
overflow_add-e c =
    let rise = ends_rise c.args.file.now c.args.e c.requires.file_value in
    search rules

pub put_one-two-requires : goal.put_one-two-requires
put_one-two-requires c =
    let args = c.args in
    let rise = ends_rise args.file.now args.e c.requires.file_value in record {
      from_le_to = (rise.0, omega (arith, rise));
      room = room-two args.file.now args.e args.out.now args.list.now c.requires.takes
          c.put_one-one.result c.put_one-one.new.out c.put_one-one.new.list c.put_one-one.ensures;
    }

pub overflow_add-e-2 : goal.overflow_add-e-2
overflow_add-e-2 c =
    let rise = ends_rise c.args.file.now c.args.e c.requires.file_value in
    search rules

pub put_one-requires : goal.put_one-requires
put_one-requires c =
    let args = c.args in
    let rise = ends_rise args.file.now args.e c.requires.file_value in record {
      from_le_to = (rise.1.0, omega (arith, rise));
      room = room-three args.file.now args.e args.out.now args.list.now c.requires.takes
          c.put_one-one.result c.put_one-one.new.out c.put_one-one.new.list c.put_one-one.ensures
          c.put_one-two.result c.put_one-two.new.out c.put_one-two.new.list c.put_one-two.ensures;
    }

pub returns : goal.returns
returns c =
    let args = c.args in
    all-put args.file.now args.e args.out.now args.list.now c.requires.takes
    c.put_one-one.result c.put_one-one.new.out c.put_one-one.new.list c.put_one-one.ensures
    c.put_one-two.result c.put_one-two.new.out c.put_one-two.new.list c.put_one-two.ensures
    c.put_one.result c.put_one.new.out c.put_one.new.list c.put_one.ensures
