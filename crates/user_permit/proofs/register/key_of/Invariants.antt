-- `user_permit::register::key_of`: what is found is among the first i entries.
use Rattle.std.proofs.Common.{◌≡◌}
use Rattle.user_permit.specs.Register.{key_among, key_of}
use Rattle.user_permit.proofs.register.key_of.Given as goal

abbrev pub invariant-loop-i : goal.invariant-loop-i
invariant-loop-i l = key_among l.register l.m l.i ≡ key_of l.register l.m
