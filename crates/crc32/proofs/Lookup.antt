-- A word and a byte by their hex digits.
-- Assumes nothing.
use mathlib.Core.Path.{◌≡◌, refl, sym, ap, subst, ◌∙◌}
use Prim.Native.Nat.{ℕ, ◌+◌, ◌*◌, ◌/◌, ◌%◌, ◌^◌, ◌<◌}
use native.Mathlib.Omega.{arith}
use lib.Bits.{bit_xor, xor_comm}
use Rattle.octets.proofs.Xor.{xor_assoc}
use Rattle.crc32.specs.Crc32.{shifts, feed}
use Rattle.crc32.specs.Table.{digit_out}
use Rattle.crc32.proofs.Shifts.{shifts_parts, byte_from_top, feed_low}

-- the low digit of x in base b and the digits above it go out by themselves: v is the value of the digit's place, u that of the next
pub apart : (n b k v u x : ℕ) → u ≡ 2 ^ k → x % b * v < u → x * v ≡ x / b * u + x % b * v
    → shifts n (x * v) ≡ bit_xor (shifts n (x % b * v)) (shifts n (x / b * u))
apart n b k v u x e h parts =
    ap (shifts n) (parts ∙ ap (λ (m : ℕ). x / b * m + x % b * v) e)
    ∙ shifts_parts n k (x / b) (x % b * v) (subst (λ (m : ℕ). x % b * v < m) e h)
    ∙ xor_comm (shifts n (x / b * 2 ^ k)) (shifts n (x % b * v))
    ∙ ap (λ (m : ℕ). bit_xor (shifts n (x % b * v)) (shifts n (x / b * m))) (sym e)

in_a_row : (a b c d e f g h : ℕ)
    → bit_xor a (bit_xor b (bit_xor c (bit_xor d (bit_xor e (bit_xor f (bit_xor g h)))))) ≡ bit_xor (bit_xor (bit_xor a b) (bit_xor c d)) (bit_xor (bit_xor e f) (bit_xor g h))
in_a_row a b c d e f g h = simp xor_assoc

-- the digits of x at the places 0 to 7
pub word_by_digits : (x : ℕ) → x < 2 ^ 32
    → shifts 32 x
    ≡ bit_xor
    (bit_xor (bit_xor (digit_out 0 (x % 16)) (digit_out 1 (x / 16 % 16))) (bit_xor (digit_out 2 (x / 256 % 16)) (digit_out 3 (x / 4096 % 16))))
    (bit_xor (bit_xor (digit_out 4 (x / 65536 % 16)) (digit_out 5 (x / 1048576 % 16))) (bit_xor (digit_out 6 (x / 16777216 % 16)) (digit_out 7 (x / 268435456 % 16))))
word_by_digits x h =
    let p₀ : x ≡ x * 1 = omega arith in
    let p₂ : x / 16 / 16 ≡ x / 256 = omega arith in
    let p₃ : x / 256 / 16 ≡ x / 4096 = omega arith in
    let p₄ : x / 4096 / 16 ≡ x / 65536 = omega arith in
    let p₅ : x / 65536 / 16 ≡ x / 1048576 = omega arith in
    let p₆ : x / 1048576 / 16 ≡ x / 16777216 = omega arith in
    let p₇ : x / 16777216 / 16 ≡ x / 268435456 % 16 = omega arith in
    ap (shifts 32) p₀
    ∙ apart 32 16 4 1 16 x refl (omega arith) (omega arith)
    ∙ ap (bit_xor (digit_out 0 (x % 16)))
    (apart 32 16 8 16 256 (x / 16) refl (omega arith) (omega arith)
    ∙ ap (bit_xor (digit_out 1 (x / 16 % 16))) (ap (digit_out 2) p₂
    ∙ apart 32 16 12 256 4096 (x / 256) refl (omega arith) (omega arith)
    ∙ ap (bit_xor (digit_out 2 (x / 256 % 16))) (ap (digit_out 3) p₃
    ∙ apart 32 16 16 4096 65536 (x / 4096) refl (omega arith) (omega arith)
    ∙ ap (bit_xor (digit_out 3 (x / 4096 % 16))) (ap (digit_out 4) p₄
    ∙ apart 32 16 20 65536 1048576 (x / 65536) refl (omega arith) (omega arith)
    ∙ ap (bit_xor (digit_out 4 (x / 65536 % 16))) (ap (digit_out 5) p₅
    ∙ apart 32 16 24 1048576 16777216 (x / 1048576) refl (omega arith) (omega arith)
    ∙ ap (bit_xor (digit_out 5 (x / 1048576 % 16))) (ap (digit_out 6) p₆
    ∙ apart 32 16 28 16777216 268435456 (x / 16777216) refl (omega arith) (omega arith)
    ∙ ap (λ (y : ℕ). bit_xor (digit_out 6 (x / 16777216 % 16)) (digit_out 7 y)) p₇))))))
    ∙ in_a_row (digit_out 0 (x % 16)) (digit_out 1 (x / 16 % 16)) (digit_out 2 (x / 256 % 16)) (digit_out 3 (x / 4096 % 16))
    (digit_out 4 (x / 65536 % 16)) (digit_out 5 (x / 1048576 % 16)) (digit_out 6 (x / 16777216 % 16)) (digit_out 7 (x / 268435456 % 16))

pub byte_by_digits : (c b : ℕ) → b < 256
    → feed c b ≡ bit_xor (bit_xor (digit_out 6 (bit_xor c b % 256 % 16)) (digit_out 7 (bit_xor c b % 256 / 16 % 16))) (c / 256)
byte_by_digits c b h =
    let low = bit_xor c b % 256 in
    let p : low / 16 ≡ low / 16 % 16 = omega arith in
    feed_low c b h
    ∙ ap (λ (y : ℕ). bit_xor y (c / 256))
    (byte_from_top low
    ∙ apart 32 16 28 16777216 268435456 low refl (omega arith) (omega arith)
    ∙ ap (λ (y : ℕ). bit_xor (digit_out 6 (low % 16)) (digit_out 7 y)) p)
