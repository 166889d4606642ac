-- The numbers that stand for answers which C cannot take: for the comparisons alone.
use Rattle.std.specs.Prelude.{ℕ, suc, ℤ, pos, negsuc, Option, Some, None}
use Rattle.probe.specs.declared.ProbeDaysLeft.{ProbeDaysLeft}
use Rattle.probe.specs.declared.ProbeUnpadded.{ProbeUnpadded}

-- 1 and how many days ago, or 0 and how many are left
abbrev pub days_form : ℤ → ProbeDaysLeft
days_form (negsuc n) = record { passed = 1; days = suc n }
days_form (pos n) = record { passed = 0; days = n }

-- the number and 1, or twice 0 where the padding is wrong
abbrev pub unpadded_form : Option ℕ → ProbeUnpadded
unpadded_form (Some x) = record { value = x; right = 1 }
unpadded_form None = record { value = 0; right = 0 }
