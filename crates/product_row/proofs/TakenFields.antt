-- Taking a field of a form at a place: what an answer says, and what makes one.
-- Assumes nothing.
use mathlib.Core.Path.{◌≡◌, ap}
use mathlib.Core.Bool.{true, false}
use mathlib.Core.List.{List}
use Prim.Native.Nat.{ℕ, suc, ◌+◌}
use native.Mathlib.Omega.{arith}
use Rattle.std.proofs.Common.{None, Some}
use Rattle.octets.proofs.Every.{either}
use Rattle.product_row.specs.Row.{Form}
use Rattle.product_row.specs.Taking.{field_length, field_ends, field_at, taken}

module _ (form : Form) (line : List ℕ) (at : ℕ) where
  pub not_taken : form (field_at line at) ≡ false → None ≡ taken form line at
  unfolding taken
  not_taken bad = rw bad

  pub taken-after : (n : ℕ) → field_length line at ≡ n → form (field_at line at) ≡ true → Some (at + n + 1) ≡ taken form line at
  unfolding taken field_ends
  taken-after n size good = rw good (let next : at + n + 1 ≡ suc (at + field_length line at) = omega arith in ap Some next)

  pub taken_says : (r : ℕ) → Some r ≡ taken form line at → (form (field_at line at) ≡ true) × (r ≡ suc (field_ends line at))
  unfolding taken
  taken_says r is =
      either (form (field_at line at))
      (λ good. let there = rw good at is in (good, cc))
      (λ bad. let none = rw bad at is in cc)

  pub none_says : None ≡ taken form line at → form (field_at line at) ≡ false
  unfolding taken
  none_says none =
      either (form (field_at line at))
      (λ good. let there = rw good at none in cc)
      (λ bad. bad)

-- one form in place of another
pub taken_like : (form other : Form) (line : List ℕ) (at next : ℕ) → form (field_at line at) ≡ other (field_at line next)
    → field_ends line at ≡ field_ends line next → taken other line next ≡ taken form line at
unfolding taken
taken_like form other line at next same ends = rw (same, ends)
