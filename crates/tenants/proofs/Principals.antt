-- Whom a tenant may name as its principal, test by test in the order in which they are made.
-- Assumes nothing.
use mathlib.Core.Path.{◌≡◌, sym, ap, ◌∙◌}
use mathlib.Core.Bool.{true, false, not, ◌&&◌, and-true, and-false}
use mathlib.Core.List.{List}
use Prim.Native.Nat.{ℕ, ◌-◌, ◌≤◌, ◌<◌}
use native.Mathlib.Omega.{arith}
use borrow.Author.Tests.{eq-eqb, ne_eqb, le-leb, lt-leb, eqb-true}
use lib.Dec.{eqb}
use lib.ListN.{get_or}
use Rattle.octets.proofs.Every.{either}
use Rattle.tenants.specs.declared.Setting.{Setting}
use Rattle.tenants.specs.Rules.{is_tenant, names_none}
use Rattle.tenants.specs.Together.{no_setting, is_principal}

module _ (settings : List Setting) (t : ℕ) (s : Setting) where
  pub names_none_lem : s.principal ≡ 0 → is_principal settings t s ≡ true
  unfolding is_principal names_none
  names_none_lem none = rw (eq-eqb s.principal 0 none)

  module _ (some : s.principal ≡ 0 → ⊥) where
    -- the tenant that is named
    abbrev p : ℕ
    p = s.principal - 1

    left : is_principal settings t s ≡ (is_tenant p && not (eqb p t) && names_none (get_or settings p no_setting) && eqb s.quota 0)
    unfolding is_principal names_none
    left = rw (ne_eqb s.principal 0 some)

    pub names-nobody : 16 < s.principal → is_principal settings t s ≡ false
    unfolding is_tenant
    names-nobody high = left ∙ rw (lt-leb p 15 (omega arith))

    pub names-with-quota : (s.quota ≡ 0 → ⊥) → is_principal settings t s ≡ false
    names-with-quota more = left ∙ rw (ne_eqb s.quota 0 more, and-false)

    -- whether the one that is named names none decides; t itself does not
    pub names-tenant : s.principal ≤ 16 → s.quota ≡ 0 → get_or settings t no_setting ≡ s → is_principal settings t s ≡ names_none (get_or settings p no_setting)
    unfolding is_tenant names_none
    names-tenant low none own =
        left
        ∙ rw (le-leb p 15 (omega arith), eq-eqb s.quota 0 none, and-true)
        (either (eqb p t)
        (λ self.
        let its : (get_or settings p no_setting).principal ≡ s.principal
        = ap (λ (u : ℕ). (get_or settings u no_setting).principal) (eqb-true p t self) ∙ ap (λ (x : Setting). x.principal) own in
        rw (self, ne_eqb (get_or settings p no_setting).principal 0 (λ e. some (sym its ∙ e))))
        (λ other. rw other))
