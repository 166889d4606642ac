-- `user_permit::put_permit` meets its contract. Assumes nothing.
use mathlib.Core.Path.{sym}
use borrow.Author.Rules.{rules}
use lib.Seq.{length-take-le}
use Rattle.user_permit.proofs.UserPermits.{parts_put}
use Rattle.user_permit.proofs.put_permit.Goals as goal

pub slice_bounds-crc32-end-2 : goal.slice_bounds-crc32-end-2
slice_bounds-crc32-end-2 c = sym (length-take-le _ c.put_hex.new.out (search rules))

pub returns : goal.returns
returns c =
    let args = c.args in
    parts_put args.key args.hw args.m args.out.now _ _ _ _ _ c.requires
    c.enciphered.ensures
    c.put_hex.ensures
    c.crc32-crc.ensures
    c.put_hex-2.ensures
    c.put_hex-3.ensures
