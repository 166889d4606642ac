-- The test of the principal that a tenant names, by the bytes, and how the sixteen are tested one after the other.
-- Assumes nothing.
use mathlib.Core.Path.{◌≡◌, sym, ap, ◌∙◌}
use mathlib.Core.Bool.{true, false}
use mathlib.Core.List.{List}
use Prim.Native.Nat.{ℕ, ◌+◌, ◌-◌, ◌≤◌, ◌<◌}
use native.Mathlib.Omega.{arith}
use lib.Dec.{eqb}
use lib.ListN.{get_or}
use Rattle.octets.specs.Places.{number_at}
use Rattle.tenants.specs.declared.Setting.{Setting}
use Rattle.tenants.specs.Rules.{names_none}
use Rattle.tenants.specs.Together.{no_setting, are_principals}
use Rattle.tenants.proofs.Principals.{names_none_lem, names-nobody, names-with-quota, names-tenant}
use Rattle.layout.specs.Layout.{book_of_by, setting_place, setting_at, each_from, book_of}
use Rattle.layout.proofs.AllFrom.{principals_each}
use Rattle.layout.proofs.Told.{byte_number}
use Rattle.layout.proofs.Indexed.{book_setting}
use Rattle.judging.specs.Judging.{principal_test, principals_test}

module _ (s : List ℕ) where
  -- the byte that names, as it is read
  named : (t : ℕ) → (setting_at s t).principal ≡ get_or s (setting_place t + 5) 0
  unfolding setting_at
  named t = byte_number s (setting_place t + 5)

  module _ (t principal : ℕ) (few : t < 16) (is : principal ≡ get_or s (setting_place t + 5) 0) where
    names : principal ≡ (setting_at s t).principal
    names = is ∙ sym (named t)

    pub none_named : principal ≡ 0 → true ≡ principal_test s t
    none_named none = sym (names_none_lem (book_of s).settings t (setting_at s t) (sym names ∙ none))

    module _ (some : principal ≡ 0 → ⊥) where
      one : (setting_at s t).principal ≡ 0 → ⊥
      one none = some (names ∙ none)

      pub nobody-named : 16 < principal → false ≡ principal_test s t
      nobody-named high = sym (names-nobody (book_of s).settings t (setting_at s t) one (omega (arith, names)))

      module _ (low : principal ≤ 16) (quota : ℕ) (has : quota ≡ number_at 2 s (setting_place t)) where
        quota_is : (setting_at s t).quota ≡ quota
        unfolding setting_at
        quota_is = sym has

        pub named-with-quota : (quota ≡ 0 → ⊥) → false ≡ principal_test s t
        named-with-quota more = sym (names-with-quota (book_of s).settings t (setting_at s t) one (λ e. more (sym quota_is ∙ e)))

        pub tenant_named : quota ≡ 0 → (last : ℕ) → last ≡ get_or s (setting_place (principal - 1) + 5) 0 → eqb last 0 ≡ principal_test s t
        unfolding names_none
        tenant_named none last told =
            let its : (get_or (book_of s).settings (principal - 1) no_setting).principal ≡ last
            = ap (λ (x : Setting). x.principal) (book_setting s (principal - 1) no_setting (omega arith)) ∙ named (principal - 1) ∙ sym told in
            sym (names-tenant (book_of s).settings t (setting_at s t) one (omega (arith, names)) (quota_is ∙ none) (book_setting s t no_setting few)
            ∙ ap (λ (p : ℕ). eqb (get_or (book_of s).settings (p - 1) no_setting).principal 0) (sym names)
            ∙ ap (λ (p : ℕ). eqb p 0) its)

pub principals_tested : (s : List ℕ) → are_principals (each_from (setting_at s) 0 16) 0 (each_from (setting_at s) 0 16) ≡ principals_test s
unfolding principals_test book_of_by
principals_tested s = principals_each (each_from (setting_at s) 0 16) (setting_at s) 0 16
