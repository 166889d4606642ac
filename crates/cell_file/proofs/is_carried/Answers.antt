-- `cell_file::is_carried` meets its contract: 256 ^ 7 has room in 64 bits.
use Rattle.std.proofs.Common.{◌≤◌, ◌^◌, arith, le-leb}
use native.Mathlib.Nat.{pow-le-pow_right}
use borrow.Author.Tests.{lt-leb}
use Rattle.cell_file.specs.Enciphering.{is_carried}
use Rattle.cell_file.proofs.is_carried.Goals as goal

pub pow-requires : goal.pow-requires
pow-requires c =
    let seven : c.args.n ≤ 7 = omega arith in
    let bound : 256 ^ c.args.n ≤ 256 ^ 7 = pow-le-pow_right {n = 256} (omega arith) seven in
    omega (arith, bound)

pub returns-then-n-le7 : goal.returns-then-n-le7
unfolding is_carried
returns-then-n-le7 c = rw (le-leb c.args.n 7 c.if-n-le7.true, c.pow.ensures)

pub returns-else-n-le7 : goal.returns-else-n-le7
unfolding is_carried
returns-else-n-le7 c = rw (lt-leb c.args.n 7 c.if-n-le7.false)
