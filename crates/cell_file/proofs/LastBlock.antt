-- The last block: carried bytes and their padding. Assumes nothing.
use mathlib.Core.Path.{◌≡◌, sym, ap, ap₂, ◌∙◌}
use mathlib.Core.List.{List}
use Prim.Native.Nat.{ℕ, ◌+◌, ◌-◌, ◌*◌, ◌^◌, ◌≤◌, ◌<◌}
use native.Mathlib.Nat.{mod-eq_of_lt}
use native.Mathlib.Omega.{arith}
use lib.ListN.{length, take, replicate, length-replicate, replicate-append-replicate}
use lib.Seq.{take_at}
use Rattle.octets.specs.Numbers.{bytes_number}
use Rattle.octets.specs.Padding.{pad_of}
use Rattle.octets.proofs.Pads.{pad_sum}

-- some of eight equal bytes
pub some_of_eight : (k b : ℕ) → k ≤ 8 → take k (replicate 8 b) ≡ replicate k b
some_of_eight k b h =
    let all : 8 ≡ k + (8 - k) = omega arith in
    ap (λ (n : ℕ). take k (replicate n b)) all
    ∙ ap (take k) (sym (replicate-append-replicate k (8 - k) b))
    ∙ take_at (replicate k b) (replicate (8 - k) b) k (length-replicate k b)

module _ (n x : ℕ) (few : n ≤ 7) (fits : x < 256 ^ n) where
  -- the bytes that are added
  abbrev fill : List ℕ
  fill = take (8 - n) (replicate 8 (8 - n))

  pub fill_length : length fill ≡ 8 - n
  fill_length = ap length (some_of_eight (8 - n) (8 - n) (omega arith)) ∙ length-replicate (8 - n) (8 - n)

  -- and the carried bytes have room before them
  pub fill_fits : (length fill ≤ 8) × (x < 256 ^ (8 - length fill))
  fill_fits =
      let e : 8 - length fill ≡ n = omega (arith, fill_length) in
      (omega (arith, fill_length), rw e fits)

  pub fill_pads : (r : ℕ) → r ≡ x * 256 ^ length fill + bytes_number fill → r ≡ pad_of n x
  fill_pads r e =
      e
      ∙ ap₂ (λ (k : ℕ) (l : List ℕ). x * 256 ^ k + bytes_number l) fill_length (some_of_eight (8 - n) (8 - n) (omega arith))
      ∙ ap (λ (y : ℕ). y * 256 ^ (8 - n) + bytes_number (replicate (8 - n) (8 - n))) (sym (mod-eq_of_lt fits))
      ∙ sym (pad_sum n x)
