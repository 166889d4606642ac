-- A short text is tested together with characters before it that pass.
-- Assumes nothing.
use mathlib.Core.Path.{◌≡◌, sym, ap, ap₂, ◌∙◌}
use mathlib.Core.Bool.{Bool, true}
use mathlib.Core.List.{List, ◌∷◌, ◌++◌}
use Prim.Native.Nat.{ℕ, zero, suc, ◌+◌, ◌*◌, ◌/◌, ◌%◌, ◌^◌, ◌≤◌, ◌<◌}
use native.Mathlib.Nat.{zero-add, suc-add, mul_comm, one-le-pow, div-eq_of_lt, mod-eq_of_lt, mul-add-div_right, mul-add-mod_self_right, div-div-eq-div-mul}
use native.Mathlib.Omega.{arith}
use borrow.Author.Tests.{lt-ltb, le-ltb}
use lib.Dec.{ltb}
use lib.Pow.{pow-add}
use Rattle.octets.specs.Numbers.{digits, bytes_of}
use Rattle.octets.specs.Every.{all_of}
use Rattle.octets.proofs.Digits.{digits_of_low}
use Rattle.text.proofs.TextsAt.{all_append}
use Rattle.forms.specs.Identifiers.{is_text}

module _ (test : ℕ → Bool) (n x : ℕ) where
  module _ (small : x < 256 ^ n) where
    high : (f : ℕ) → (f * 256 ^ n + x) / 256 ^ n ≡ f
    high f = mul-add-div_right (one-le-pow n 256 (omega arith)) f x ∙ rw (div-eq_of_lt small) (omega arith)

    -- k bytes of f before those of x
    before : (k f : ℕ) → bytes_of (k + n) (f * 256 ^ n + x) ≡ bytes_of k f ++ bytes_of n x
    unfolding digits
    before zero f =
        rw zero-add
        (sym (digits_of_low 256 n (f * 256 ^ n + x) (omega arith))
        ∙ ap (bytes_of n) (mul-add-mod_self_right f (256 ^ n) x ∙ mod-eq_of_lt small))
    before (suc k) f =
        rw suc-add
        (ap₂ (λ (d : ℕ) (ds : List ℕ). d % 256 ∷ ds)
        (ap (λ (m : ℕ). (f * 256 ^ n + x) / m) (pow-add 256 k n ∙ mul_comm (256 ^ k) (256 ^ n))
        ∙ sym (div-div-eq-div-mul (f * 256 ^ n + x) (256 ^ n) (256 ^ k))
        ∙ ap (λ (m : ℕ). m / 256 ^ k) (high f))
        (before k f))

    pub filled : (k f : ℕ) → all_of test (bytes_of k f) ≡ true → all_of test (bytes_of (k + n) (f * 256 ^ n + x)) ≡ is_text test n x
    unfolding is_text
    filled k f pass = ap (all_of test) (before k f) ∙ all_append test (bytes_of k f) (bytes_of n x) ∙ rw (pass, lt-ltb x (256 ^ n) small)

  pub too_large : 256 ^ n ≤ x → ltb x (256 ^ n) ≡ is_text test n x
  unfolding is_text
  too_large large = rw (le-ltb x (256 ^ n) large)
