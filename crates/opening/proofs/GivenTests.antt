-- What is given at opening: sixteen quotas with their sum, the IDs, and the principals, test by test.
-- Assumes nothing.
use mathlib.Core.Path.{◌≡◌, refl, sym, ap, ◌∙◌}
use mathlib.Core.Bool.{Bool, true, false, ◌&&◌}
use mathlib.Core.List.{List}
use Prim.Native.Nat.{ℕ, zero, suc, ◌+◌, ◌-◌, ◌≤◌, ◌<◌}
use native.Mathlib.Omega.{arith}
use borrow.Author.Tests.{eqb-true, eq-eqb}
use lib.Dec.{eqb, leb}
use lib.ListN.{length, get_or, take, drop}
use lib.Seq.{take_all, drop-cons}
use Rattle.std.specs.List.{sum}
use Rattle.std.proofs.lemmas.List.Sums.{sum_by-cons}
use Rattle.octets.specs.Every.{all_of}
use Rattle.octets.proofs.Every.{and_first, and_second, either}
use Rattle.text.specs.Characters.{is_name_character}
use Rattle.text.specs.Texts.{all_at}
use Rattle.text.proofs.TextsAt.{all_inside}
use Rattle.tenants.specs.declared.Setting.{Setting}
use Rattle.tenants.specs.Rules.{names_none}
use Rattle.tenants.specs.Together.{no_setting, is_principal, are_principals, quota_sum}
use Rattle.tenants.proofs.Principals.{names-tenant}
use Rattle.layout.specs.Layout.{each_from}
use Rattle.layout.proofs.Each.{each_is}
use Rattle.opening.specs.Opening.{first_setting, first_settings, are_given}

module _ (quotas ids principals : List ℕ) where
  abbrev settings : List Setting
  settings = first_settings quotas ids principals

  -- the quotas of n settings from that of tenant t on
  quotas_from : (t n : ℕ) → t + n ≤ length quotas → quota_sum (each_from (first_setting quotas ids principals) t n) ≡ sum (take n (drop t quotas))
  unfolding each_from quota_sum
  quotas_from t zero within = refl
  quotas_from t (suc n) within =
      let more : t < length quotas = omega arith in
      ap (λ (rest : ℕ). get_or quotas t 0 + rest) (quotas_from (suc t) n (omega arith))
      ∙ sym (ap (λ (l : List ℕ). sum (take (suc n) l)) (drop-cons quotas t 0 more) ∙ sum_by-cons (λ (x : ℕ). x) (get_or quotas t 0) (take n (drop (suc t) quotas)))

  -- the tests, in their order
  abbrev quotas_right : Bool
  quotas_right = eqb (length quotas) 16 && leb (quota_sum settings) 512

  abbrev ids_right : Bool
  ids_right = eqb (length ids) 32 && all_of is_name_character ids

  abbrev principals_right : Bool
  principals_right = eqb (length principals) 16 && are_principals settings 0 settings

  -- what is given has these lengths
  abbrev pub Sized : Type 0
  Sized = (length quotas ≡ 16) × (length ids ≡ 32) × (length principals ≡ 16)

  pub not_sized : (Sized → ⊥) → are_given quotas ids principals ≡ false
  unfolding are_given
  not_sized other =
      either (are_given quotas ids principals)
      (λ good. absurd (other (sized good)))
      (λ bad. bad)
    where
      sized : are_given quotas ids principals ≡ true → Sized
      sized good =
          let before = and_first (quotas_right && ids_right) principals_right good in (
            eqb-true _ _ (and_first (eqb (length quotas) 16) (leb (quota_sum settings) 512) (and_first quotas_right ids_right before)),
            eqb-true _ _ (and_first (eqb (length ids) 32) (all_of is_name_character ids) (and_second quotas_right ids_right before)),
            eqb-true _ _ (and_first (eqb (length principals) 16) (are_principals settings 0 settings) (and_second (quotas_right && ids_right) principals_right good)),
          )

  -- then these three tests are left
  pub by_tests : Sized → are_given quotas ids principals ≡ (leb (sum quotas) 512 && all_at is_name_character 32 ids 0 && are_principals settings 0 settings)
  unfolding are_given
  by_tests sized =
      let whole : quota_sum settings ≡ sum quotas =
      quotas_from 0 16 (omega (arith, sized.0)) ∙ ap sum (take_all 16 quotas (omega (arith, sized.0))) in
      let all : all_at is_name_character 32 ids 0 ≡ all_of is_name_character ids =
      all_inside is_name_character 32 ids 0 (omega (arith, sized.1)) ∙ ap (all_of is_name_character) (take_all 32 ids (omega (arith, sized.1))) in
      rw (eq-eqb (length quotas) 16 sized.0, eq-eqb (length ids) 32 sized.1, eq-eqb (length principals) 16 sized.2, whole, all)

  -- whether the one that tenant t names, names none, decides
  pub tenant_named : (t : ℕ) → t < 16 → ((first_setting quotas ids principals t).principal ≡ 0 → ⊥) → (first_setting quotas ids principals t).principal ≤ 16
      → (first_setting quotas ids principals t).quota ≡ 0
      → eqb (first_setting quotas ids principals ((first_setting quotas ids principals t).principal - 1)).principal 0
      ≡ is_principal settings t (first_setting quotas ids principals t)
  unfolding names_none
  tenant_named t few some low none =
      let p = (first_setting quotas ids principals t).principal - 1 in
      sym (names-tenant settings t (first_setting quotas ids principals t) some low none (each_is (first_setting quotas ids principals) 16 t no_setting few)
      ∙ ap (λ (x : Setting). eqb x.principal 0) (each_is (first_setting quotas ids principals) 16 p no_setting (omega arith)))
