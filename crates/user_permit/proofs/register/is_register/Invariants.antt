-- `user_permit::register::is_register`: the first i entries are right.
use Rattle.std.proofs.Common.{◌≡◌, true}
use Rattle.user_permit.specs.Register.{are_entries}
use Rattle.user_permit.proofs.register.is_register.Given as goal

abbrev pub invariant-loop-i : goal.invariant-loop-i
invariant-loop-i l = are_entries l.register l.i ≡ true
