-- The test of one setting, how the sixteen are tested one after the other, and what that says of the settings.
-- Assumes nothing.
use mathlib.Core.Path.{◌≡◌, refl, sym, ap, ap₂, ◌∙◌}
use mathlib.Core.Bool.{Bool, true, false, ◌&&◌}
use mathlib.Core.List.{List}
use Prim.Native.Nat.{ℕ, zero, suc, ◌+◌, ◌≤◌, ◌<◌}
use native.Mathlib.Omega.{arith}
use lib.Dec.{leb}
use lib.ListN.{length}
use Rattle.octets.specs.Numbers.{Below}
use Rattle.octets.specs.Places.{number_at}
use Rattle.octets.proofs.Places.{number_at_below}
use Rattle.tenants.specs.declared.Setting.{Setting}
use Rattle.tenants.specs.Together.{is_setting, are_settings}
use Rattle.layout.specs.Layout.{setting_size, setting_place, records_place, setting_at, each_from, all_from}
use Rattle.judging.specs.Judging.{setting_part, setting_test, settings_test}
use Rattle.layout.proofs.Told.{byte_number}
use Rattle.judging.proofs.Parts.{number_in_part, byte_in_part}
use Rattle.layout.proofs.AllFrom.{Passed, passed_none, passed-next, passed_all, one_fails, same_all}
use Rattle.layout.proofs.QuotaSums.{Summed, summed_none, summed-next, summed-all}

-- all of a row are settings where each is one
settings_each : (at : ℕ → Setting) (t n : ℕ) → are_settings (each_from at t n) ≡ all_from (λ (u : ℕ). is_setting (at u)) t n
unfolding are_settings each_from all_from
settings_each at t zero = refl
settings_each at t (suc n) = rw (settings_each at (suc t) n)

module _ (s : List ℕ) where
  -- the test of tenant t's setting
  abbrev pub test_at : ℕ → Bool
  test_at t = setting_test (setting_part s t)

  -- the settings before t are right, and their quotas sum to `sum`
  pub record SettingsFrom (sum t : ℕ) : Type 0 where
    pub right : Passed test_at t
    pub summed : Summed (setting_at s) sum t

  pub settings_start : SettingsFrom 0 0
  settings_start = record { right = passed_none test_at; summed = summed_none }

  module _ {sum t : ℕ} (from : SettingsFrom sum t) where
    pub settings-end : 16 ≤ t → leb sum 512 ≡ settings_test s
    unfolding settings_test
    settings-end done =
        sym (ap₂ (λ (a : Bool) (x : ℕ). a && leb x 512) (passed_all test_at 16 t from.right done) (sym (summed-all from.summed done)))

    module _ (more : t < 16) where
      pub setting-wrong : test_at t ≡ false → settings_test s ≡ false
      unfolding settings_test
      setting-wrong wrong = rw (one_fails test_at 16 t more wrong)

      -- with the quota as it was read of the part
      pub settings-next : records_place ≤ length s → Below 256 s → test_at t ≡ true
          → (quota : ℕ) → quota ≡ number_at 2 (setting_part s t) 0 → SettingsFrom (sum + quota) (t + 1)
      settings-next within below right quota is = record {
        right = passed-next test_at t from.right right;
        summed =
            summed-next from.summed more quota (unfold setting_at in read)
            (omega (arith, read, number_at_below 2 s (setting_place t) below));
      }
        where
          read : quota ≡ number_at 2 s (setting_place t)
          read =
              let e : setting_place t + 0 ≡ setting_place t = omega arith in
              is ∙ number_in_part setting_size s (setting_place t) (omega arith) 2 0 (omega arith) ∙ ap (number_at 2 s) e

  -- the part of a setting passes exactly where what it says is right
  setting_tested : (t : ℕ) → setting_place t + setting_size ≤ length s → test_at t ≡ is_setting (setting_at s t)
  unfolding setting_test is_setting setting_at
  setting_tested t within =
      rw (
        byte_in_part setting_size s (setting_place t) within 2 (omega arith),
        number_in_part setting_size s (setting_place t) within 2 3 (omega arith),
        byte_number s (setting_place t + 2),
      )

  pub settings_tested : records_place ≤ length s → are_settings (each_from (setting_at s) 0 16) ≡ all_from test_at 0 16
  settings_tested within =
      settings_each (setting_at s) 0 16
      ∙ sym (same_all test_at (λ (t : ℕ). is_setting (setting_at s t)) 0 16 (λ t low high. setting_tested t (omega arith)))
