-- Fields put one after the other are one text; the tenant's byte and the name are the full name.
-- Assumes nothing.
use mathlib.Core.Path.{◌≡◌, sym, ap, ap₂, ◌∙◌}
use mathlib.Core.List.{List, [], ◌∷◌, ◌++◌}
use Prim.Native.Nat.{ℕ, suc, ◌+◌, ◌*◌, ◌%◌, ◌^◌, ◌≤◌, ◌<◌}
use native.Mathlib.Nat.{mul-add-mod_self_right}
use native.Mathlib.Omega.{arith}
use lib.Arith.{digits_div}
use lib.ListN.{length, length-append}
use Rattle.octets.specs.Numbers.{digits, bytes_of}
use Rattle.octets.proofs.Digits.{digits_of_low}
use Rattle.text.specs.Texts.{placed}
use Rattle.text.proofs.PlacedTexts.{length-placed, placed-next}
use Rattle.tenants.specs.Together.{full_name}

-- a digit in front of n lower ones
digit_in_front : (b n d x : ℕ) → x < b ^ n → 0 < b → digits b (suc n) (d * b ^ n + x) ≡ d % b ∷ digits b n x
unfolding digits
digit_in_front b n d x g some =
    ap₂ (λ (e : ℕ) (es : List ℕ). e ∷ es)
    (ap (λ (m : ℕ). m % b) (digits_div d g))
    (sym (digits_of_low b n (d * b ^ n + x) some)
    ∙ ap (digits b n) (mul-add-mod_self_right d (b ^ n) x)
    ∙ digits_of_low b n x some)

pub full_name_bytes : (t name : ℕ) → name < 256 ^ 8 → (t % 256 ∷ []) ++ bytes_of 8 name ≡ bytes_of 9 (full_name t name)
full_name_bytes t name small = sym (digit_in_front 256 8 t name small (omega arith))

-- a text is put, and another where it ends
module _ (at n : ℕ) (a b s s₁ s₂ : List ℕ) (first : s₁ ≡ placed at a s) (next : s₂ ≡ placed n b s₁) where
  pub two_put : n ≡ at + length a → at + (length a + length b) ≤ length s → s₂ ≡ placed at (a ++ b) s
  two_put e room = next ∙ ap (placed n b) first ∙ placed-next at n a b s e room

  pub three_put : (m : ℕ) (d s₃ : List ℕ) → s₃ ≡ placed m d s₂ → n ≡ at + length a → m ≡ n + length b
      → at + (length a + (length b + length d)) ≤ length s → s₃ ≡ placed at (a ++ (b ++ d)) s
  three_put m d s₃ last e f room =
      last
      ∙ ap (placed m d) next
      ∙ placed-next n m b d s₁ f (omega (arith, ap length first ∙ length-placed at a s))
      ∙ ap (placed n (b ++ d)) first
      ∙ placed-next at n a (b ++ d) s e (simp length-append (omega arith))
