-- What is read of a setting, or of a record with its zeros, is written as it stands.
-- Assumes nothing.
use mathlib.Core.Path.{◌≡◌, refl, sym, ap, ap₂, ◌∙◌}
use mathlib.Core.List.{List, ◌∷◌, ◌++◌}
use Prim.Native.Nat.{ℕ, zero, suc, ◌+◌, ◌≤◌, ◌<◌}
use native.Mathlib.Omega.{arith}
use lib.ListN.{length, get_or, take}
use lib.Seq.{drop-cons}
use Rattle.octets.specs.Numbers.{digits, Below, bytes_of}
use Rattle.octets.specs.Places.{number_at}
use Rattle.octets.proofs.Places.{bytes_at}
use Rattle.text.specs.Texts.{part}
use Rattle.layout.specs.Layout.{Version, last_size, record_size_by, zeros, setting_bytes, record_bytes_by, setting_place, record_place_by, setting_at, record_at_by}
use Rattle.layout.proofs.Each.{meet}

-- n zeros stand at a place
pub zeros-part : (n : ℕ) (s : List ℕ) (at : ℕ) → at + n ≤ length s → ((j : ℕ) → at ≤ j → j < at + n → get_or s j 0 ≡ 0)
    → zeros n ≡ part n s at
zeros-part zero s at within zero-there = refl
zeros-part (suc n) s at within zero-there =
    ap₂ (λ (b : ℕ) (l : List ℕ). b ∷ l) (sym (zero-there at (omega arith) (omega arith)))
    (zeros-part n s (suc at) (omega arith) (λ j low high. zero-there j (omega arith) (omega arith)))
    ∙ sym (ap (take (suc n)) (drop-cons s at 0 (omega arith)))

module _ (s : List ℕ) (below : Below 256 s) where
  pub setting_written : (t : ℕ) → setting_place t + 6 ≤ length s → setting_bytes (setting_at s t) ≡ part 6 s (setting_place t)
  unfolding setting_bytes setting_at
  setting_written t within =
      let at = setting_place t in
      rw (
        bytes_at 2 s at below (omega arith),
        bytes_at 1 s (at + 2) below (omega arith),
        bytes_at 2 s (at + 3) below (omega arith),
        bytes_at 1 s (at + 5) below (omega arith),
      )
      (ap (λ (l : List ℕ). part 2 s at ++ (part 1 s (at + 2) ++ l)) (meet 2 1 s (at + 3) (at + 5) (omega arith))
      ∙ ap (λ (l : List ℕ). part 2 s at ++ l) (meet 1 3 s (at + 2) (at + 3) (omega arith))
      ∙ meet 2 4 s at (at + 2) (omega arith))

  pub record_written : (v : Version) (i : ℕ) → record_place_by v i + record_size_by v ≤ length s → number_at 3 s (record_place_by v i + 21) ≡ 0
      → record_bytes_by v (record_at_by v s i) ≡ part (record_size_by v) s (record_place_by v i)
  unfolding record_bytes_by record_at_by digits
  record_written v i within zero-there =
      let at = record_place_by v i in
      let l = last_size v in
      let spare : zeros 3 ≡ part 3 s (at + 21) = ap (bytes_of 3) (sym zero-there) ∙ bytes_at 3 s (at + 21) below (omega arith) in
      let from-spare : zeros 3 ++ bytes_of l (number_at l s (at + 24)) ≡ part (3 + l) s (at + 21) =
      ap₂ (λ (a b : List ℕ). a ++ b) spare (bytes_at l s (at + 24) below (omega arith)) ∙ meet 3 l s (at + 21) (at + 24) (omega arith) in
      let from-key2 : bytes_of 5 (number_at 5 s (at + 16)) ++ (zeros 3 ++ bytes_of l (number_at l s (at + 24))) ≡ part (5 + (3 + l)) s (at + 16) =
      ap₂ (λ (a b : List ℕ). a ++ b) (bytes_at 5 s (at + 16) below (omega arith)) from-spare ∙ meet 5 (3 + l) s (at + 16) (at + 21) (omega arith) in
      let size : 9 + (2 + (5 + (5 + (3 + l)))) ≡ record_size_by v = omega arith in
      ap₂ (λ (a b : List ℕ). a ++ b) (bytes_at 9 s at below (omega arith))
      (ap₂ (λ (a b : List ℕ). a ++ b) (bytes_at 2 s (at + 9) below (omega arith))
      (ap₂ (λ (a b : List ℕ). a ++ b) (bytes_at 5 s (at + 11) below (omega arith)) from-key2
      ∙ meet 5 (5 + (3 + l)) s (at + 11) (at + 16) (omega arith))
      ∙ meet 2 (5 + (5 + (3 + l))) s (at + 9) (at + 11) (omega arith))
      ∙ meet 9 (2 + (5 + (5 + (3 + l)))) s at (at + 9) (omega arith)
      ∙ ap (λ (k : ℕ). part k s at) size
