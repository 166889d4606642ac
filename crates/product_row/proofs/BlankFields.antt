-- A field that is blank, and one that may be.
-- Assumes nothing.
use mathlib.Core.Path.{◌≡◌, refl, ap, ◌∙◌}
use mathlib.Core.Bool.{false}
use mathlib.Core.List.{List, [], ◌∷◌}
use Prim.Native.Nat.{ℕ, ◌+◌, ◌≤◌, ◌<◌}
use native.Mathlib.Omega.{arith}
use lib.ListN.{length, get_or}
use Rattle.std.proofs.Common.{Some}
use Rattle.product_row.specs.Fields.{is_blank, or_blank}
use Rattle.product_row.specs.Row.{Form}
use Rattle.product_row.specs.Taking.{field_ends, field_at, taken}
use Rattle.product_row.proofs.FieldPlaces.{field_size, starts-comma, starts_other}
use Rattle.product_row.proofs.TakenFields.{taken-after, taken_like}

none_blank : (f : List ℕ) → length f ≡ 0 → f ≡ []
none_blank [] e = refl
none_blank (c ∷ f) e = absurd (omega arith)

some_unblank : (f : List ℕ) → 1 ≤ length f → is_blank f ≡ false
unfolding is_blank
some_unblank [] h = absurd (omega arith)
some_unblank (c ∷ f) h = refl

module _ (line : List ℕ) (at : ℕ) (ended : field_ends line at < length line) where
  pub blank_field : get_or line at 0 ≡ 44 → field_at line at ≡ []
  blank_field comma = none_blank (field_at line at) (field_size line at ∙ starts-comma line at ended comma)

  pub unblank_field : (get_or line at 0 ≡ 44 → ⊥) → is_blank (field_at line at) ≡ false
  unblank_field other = some_unblank (field_at line at) (omega (arith, field_size line at, starts_other line at ended other))

  pub blank_taken : (form : Form) → get_or line at 0 ≡ 44 → Some (at + 1) ≡ taken (or_blank form) line at
  unfolding is_blank
  blank_taken form comma =
      let here : at + 1 ≡ at + 0 + 1 = omega arith in
      ap Some here ∙ taken-after (or_blank form) line at 0 (starts-comma line at ended comma) (rw (blank_field comma))

  pub other_taken : (form : Form) → (get_or line at 0 ≡ 44 → ⊥) → taken form line at ≡ taken (or_blank form) line at
  other_taken form other = taken_like (or_blank form) form line at at (rw (unblank_field other)) refl
