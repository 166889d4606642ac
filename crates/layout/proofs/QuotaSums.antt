-- The sum of the sixteen quotas, taken one after the other.
-- Assumes nothing.
use mathlib.Core.Path.{◌≡◌, sym}
use Prim.Native.Nat.{ℕ, suc, ◌+◌, ◌-◌, ◌*◌, ◌≤◌, ◌<◌}
use native.Mathlib.Numerals.{add-one}
use native.Mathlib.Omega.{arith}
use Rattle.tenants.specs.declared.Setting.{Setting}
use Rattle.tenants.specs.Together.{quota_sum}
use Rattle.layout.specs.Layout.{each_from}

-- sum is that of the tenants before t, and with those from t on it is the sum of all
pub record Summed (at : ℕ → Setting) (sum t : ℕ) : Type 0 where
  pub low : sum ≤ 65535 * t
  pub rest : sum + quota_sum (each_from at t (16 - t)) ≡ quota_sum (each_from at 0 16)

module _ {at : ℕ → Setting} where
  pub summed_none : Summed at 0 0
  summed_none = record { low = omega arith; rest = omega arith }

  module _ {sum t : ℕ} (so_far : Summed at sum t) where
    pub summed-next : t < 16 → (quota : ℕ) → quota ≡ (at t).quota → quota < 65536 → Summed at (sum + quota) (t + 1)
    unfolding each_from quota_sum
    summed-next more quota is fits = record { low = omega (arith, so_far.low); rest = omega (arith, is, first) }
      where
        first : sum + ((at t).quota + quota_sum (each_from at (t + 1) (16 - (t + 1)))) ≡ quota_sum (each_from at 0 16)
        first = let left : 16 - t ≡ suc (16 - (t + 1)) = omega arith in rw (left, sym (add-one t)) at so_far.rest

    pub summed-all : 16 ≤ t → sum ≡ quota_sum (each_from at 0 16)
    unfolding each_from quota_sum
    summed-all done =
        let none : 16 - t ≡ 0 = omega arith in
        let all : sum + 0 ≡ quota_sum (each_from at 0 16) = rw none at so_far.rest in
        omega arith
