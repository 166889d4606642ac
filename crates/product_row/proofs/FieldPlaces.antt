-- A field that begins at a place: where its comma stands, what is no comma, and the rest of it from a later place.
-- Assumes nothing.
use mathlib.Core.Path.{◌≡◌, sym, ap, ◌∙◌}
use mathlib.Core.List.{List, [], ◌∷◌}
use Prim.Native.Nat.{ℕ, zero, suc, ◌+◌, ◌-◌, ◌≤◌, ◌<◌}
use native.Mathlib.Omega.{arith}
use lib.ListN.{length, get_or, take, drop, length-drop}
use lib.Seq.{take-nil, take-take, drop-drop, get_or-drop, get_or-take, length-take-le}
use Rattle.text.specs.Texts.{part}
use Rattle.product_row.specs.Fields.{length_to}
use Rattle.product_row.specs.Taking.{field_length, field_ends, field_at}
use Rattle.product_row.proofs.Cuts.{cut_within, cut_there, cut_rest, cut-here, cut_later}

-- the rest of a cut text after n of its bytes
rest_cut : (n m : ℕ) (s : List ℕ) → n ≤ m → drop n (take m s) ≡ take (m - n) (drop n s)
rest_cut zero m s h = let e : m ≡ m - 0 = omega arith in ap (λ (k : ℕ). take k s) e
rest_cut (suc n) zero s h = absurd (omega arith)
rest_cut (suc n) (suc m) [] h = sym (take-nil (suc m - suc n))
rest_cut (suc n) (suc m) (b ∷ s) h =
    let e : suc m - suc n ≡ m - n = omega arith in
    rest_cut n m s (omega arith) ∙ ap (λ (k : ℕ). take k (drop n s)) (sym e)

module _ (line : List ℕ) (at : ℕ) where
  abbrev rest : List ℕ
  rest = drop at line

  byte_in : (k : ℕ) → get_or rest k 0 ≡ get_or line (at + k) 0
  byte_in k = get_or-drop at line k 0

  pub begins : at ≤ field_ends line at
  unfolding field_ends
  begins = omega arith

  pub field_size : length (field_at line at) ≡ field_length line at
  unfolding field_at
  field_size = length-take-le (field_length line at) rest (cut_within 44 rest)

  pub field_byte : (k : ℕ) → k < field_length line at → get_or (field_at line at) k 0 ≡ get_or line (at + k) 0
  unfolding field_at
  field_byte k h = get_or-take (field_length line at) rest k 0 h ∙ byte_in k

  -- some of its bytes
  pub part_of_field : (n k : ℕ) → k + n ≤ field_length line at → part n (field_at line at) k ≡ part n line (at + k)
  unfolding field_at
  part_of_field n k h =
      ap (take n) (rest_cut k (field_length line at) rest (omega arith))
      ∙ take-take n (field_length line at - k) (drop k rest) (omega arith)
      ∙ ap (take n) (drop-drop k at line)

  -- a field that a comma ends
  module _ (ended : field_ends line at < length line) where
    size_less : field_length line at < length rest
    unfolding field_ends
    size_less = simp length-drop (omega arith)

    pub comma-there : get_or line (field_ends line at) 0 ≡ 44
    unfolding field_ends
    comma-there = sym (byte_in (field_length line at)) ∙ cut_there 44 rest size_less

    -- after n bytes that are no comma
    module _ (n : ℕ) (h : n ≤ field_length line at) where
      pub within : at + n < length line
      unfolding field_ends
      within = omega arith

      pub same_end : field_ends line (at + n) ≡ field_ends line at
      unfolding field_ends
      same_end =
          let sum : n + length_to 44 (drop n rest) ≡ field_length line at = cut_rest 44 rest n h in
          let e : length_to 44 (drop n rest) ≡ length_to 44 (drop (at + n) line) = ap (length_to 44) (drop-drop n at line) in
          omega arith

      pub still-ended : field_ends line (at + n) < length line
      still-ended = rw same_end ended

      pub rest-of-field : drop n (field_at line at) ≡ field_at line (at + n)
      unfolding field_at
      rest-of-field =
          let sum : n + length_to 44 (drop n rest) ≡ field_length line at = cut_rest 44 rest n h in
          let e : field_length line at - n ≡ length_to 44 (drop n rest) = omega arith in
          rest_cut n (field_length line at) rest h
          ∙ ap (λ (k : ℕ). take k (drop n rest)) e
          ∙ ap (λ (l : List ℕ). take (length_to 44 l) l) (drop-drop n at line)

      pub ends_here : get_or line (at + n) 0 ≡ 44 → field_length line at ≡ n
      ends_here e = cut-here 44 rest n h (byte_in n ∙ e)

      pub goes_on : (get_or line (at + n) 0 ≡ 44 → ⊥) → n < field_length line at
      goes_on other = cut_later 44 rest n h size_less (λ e. other (sym (byte_in n) ∙ e))

    -- its first byte
    first_place_lem : get_or line (at + 0) 0 ≡ get_or line at 0
    first_place_lem = let z : at + 0 ≡ at = omega arith in ap (λ (k : ℕ). get_or line k 0) z

    pub starts-comma : get_or line at 0 ≡ 44 → field_length line at ≡ 0
    starts-comma e = ends_here 0 (omega arith) (first_place_lem ∙ e)

    pub starts_other : (get_or line at 0 ≡ 44 → ⊥) → 1 ≤ field_length line at
    starts_other other = goes_on 0 (omega arith) (λ e. other (sym first_place_lem ∙ e))

    pub first_byte : 1 ≤ field_length line at → get_or (field_at line at) 0 0 ≡ get_or line at 0
    first_byte h = field_byte 0 h ∙ first_place_lem
