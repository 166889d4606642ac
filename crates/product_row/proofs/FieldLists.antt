-- The fields of a text: the first of them and those after its comma, and how many they are.
-- Assumes nothing.
use mathlib.Core.Path.{◌≡◌, refl, ap, ◌∙◌}
use mathlib.Core.List.{List, [], ◌∷◌}
use Prim.Native.Nat.{ℕ, suc, ◌+◌, ◌≤◌, ◌<◌}
use native.Mathlib.Nat.{le_of_suc-le-suc}
use native.Mathlib.Omega.{arith}
use borrow.Author.Tests.{ltb-true, ltb-false}
use lib.Dec.{eqb, ltb}
use lib.ListN.{length, take, drop, length-drop}
use lib.Seq.{drop-drop}
use Rattle.std.proofs.Common.{◌==◌, cond, count_by}
use Rattle.std.proofs.lemmas.List.Sums.{sum_by-cons}
use Rattle.octets.proofs.Every.{either}
use Rattle.text.specs.Texts.{onto}
use Rattle.product_row.specs.Fields.{length_to, fields_of}
use Rattle.product_row.specs.Taking.{field_length, field_ends, field_at, fields_left}
use Rattle.product_row.proofs.Cuts.{cut_within}

onto-length : (c : ℕ) (ts : List (List ℕ)) → 1 ≤ length ts → length (onto c ts) ≡ length ts
unfolding onto
onto-length c [] h = absurd (omega arith)
onto-length c (t ∷ ts) h = refl

fields_some : (s : List ℕ) → 1 ≤ length (fields_of s)
unfolding fields_of
fields_some [] = omega arith
fields_some (c ∷ s) =
    either (eqb c 44)
    (λ comma. rw comma (omega arith))
    (λ other. rw other (rw (onto-length c (fields_of s) (fields_some s)) (fields_some s)))

-- as many as commas, and one
pub fields_count : (s : List ℕ) → length (fields_of s) ≡ suc (count_by (λ c. c == 44) s)
unfolding fields_of
fields_count [] = refl
fields_count (c ∷ s) =
    let here = sum_by-cons (λ (b : ℕ). cond (b == 44) 1 0) c s in
    let rest = fields_count s in
    either (eqb c 44)
    (λ comma. let one = rw comma at here in rw comma (omega arith))
    (λ other. let none = rw other at here in rw other (rw (onto-length c (fields_of s) (fields_some s)) (omega arith)))

-- a field that a comma ends, and those after it
first_field : (s : List ℕ) → length_to 44 s < length s → fields_of s ≡ take (length_to 44 s) s ∷ fields_of (drop (suc (length_to 44 s)) s)
unfolding fields_of length_to onto
first_field [] h = absurd (omega arith)
first_field (c ∷ s) h =
    either (eqb c 44)
    (λ comma. rw comma)
    (λ other. rw other (ap (onto c) (first_field s (le_of_suc-le-suc (rw other at h)))))

only_field : (s : List ℕ) → length_to 44 s ≡ length s → fields_of s ≡ s ∷ []
unfolding fields_of length_to onto
only_field [] e = refl
only_field (c ∷ s) e =
    either (eqb c 44)
    (λ comma. absurd (omega (arith, rw comma at e)))
    (λ other. rw other (ap (onto c) (only_field s (omega (arith, rw other at e)))))

module _ (line : List ℕ) (at : ℕ) where
  pub next-fields : field_ends line at < length line → fields_of (drop at line) ≡ field_at line at ∷ fields_of (drop (suc (field_ends line at)) line)
  unfolding field_ends field_at
  next-fields ended =
      let place : at + suc (field_length line at) ≡ suc (at + field_length line at) = omega arith in
      first_field (drop at line) (simp length-drop (omega arith))
      ∙ ap (λ (l : List ℕ). field_at line at ∷ fields_of l) (drop-drop (suc (field_length line at)) at line ∙ ap (λ (n : ℕ). drop n line) place)

  last_size_lem : length line ≤ field_ends line at → field_length line at ≡ length (drop at line)
  unfolding field_ends
  last_size_lem end = omega (arith, cut_within 44 (drop at line), length-drop at line)

  pub more_fields : 2 ≤ fields_left line at → field_ends line at < length line
  more_fields two =
      either (ltb (field_ends line at) (length line))
      (λ ended. ltb-true (field_ends line at) (length line) ended)
      (λ end. absurd (omega (arith, ap length (only_field (drop at line) (last_size_lem (ltb-false (field_ends line at) (length line) end))))))

  pub one_less : field_ends line at < length line → fields_left line at ≡ suc (fields_left line (suc (field_ends line at)))
  one_less ended = ap length (next-fields ended)

  pub last_field_lem : fields_left line at ≡ 1 → fields_of (drop at line) ≡ drop at line ∷ []
  last_field_lem one =
      either (ltb (field_ends line at) (length line))
      (λ ended.
      absurd (omega (arith, one_less (ltb-true (field_ends line at) (length line) ended), fields_some (drop (suc (field_ends line at)) line))))
      (λ end. only_field (drop at line) (last_size_lem (ltb-false (field_ends line at) (length line) end)))
