-- A word by its bytes, and a byte by its hex digits, when 128 bits go out.
-- Assumes nothing.
use mathlib.Core.Path.{◌≡◌, refl, ap, ◌∙◌}
use Prim.Native.Nat.{ℕ, zero, suc, ◌*◌, ◌/◌, ◌%◌, ◌^◌, ◌<◌}
use native.Mathlib.Omega.{arith}
use lib.Bits.{bit_xor}
use Rattle.octets.proofs.Xor.{xor_assoc}
use Rattle.crc32.specs.Crc32.{shifts}
use Rattle.crc32.proofs.Lookup.{apart}
use Rattle.crc32_long.specs.Streams.{byte_out}

-- what is left of the high hex digit n of a byte at a place of a word
abbrev pub high_out : ℕ → ℕ → ℕ
high_out place n = shifts 128 (n * (16 * 256 ^ place))

-- a byte goes out as its two hex digits
pub byte_by_digits : (place n : ℕ) → place < 4 → n < 256 → byte_out place n ≡ bit_xor (byte_out place (n % 16)) (high_out place (n / 16))
byte_by_digits zero n p h = apart 128 16 4 1 16 n refl (omega arith) (omega arith)
byte_by_digits (suc zero) n p h = apart 128 16 12 256 4096 n refl (omega arith) (omega arith)
byte_by_digits (suc (suc zero)) n p h = apart 128 16 20 65536 1048576 n refl (omega arith) (omega arith)
byte_by_digits (suc (suc (suc zero))) n p h = apart 128 16 28 16777216 268435456 n refl (omega arith) (omega arith)
byte_by_digits (suc (suc (suc (suc place)))) n p h = absurd (omega arith)

-- the bytes of x at the places 0 to 3
pub word_by_bytes : (x : ℕ) → x < 2 ^ 32
    → shifts 128 x
    ≡ bit_xor (bit_xor (byte_out 0 (x % 256)) (byte_out 1 (x / 256 % 256))) (bit_xor (byte_out 2 (x / 65536 % 256)) (byte_out 3 (x / 16777216 % 256)))
word_by_bytes x h =
    let p₀ : x ≡ x * 1 = omega arith in
    let p₂ : x / 256 / 256 ≡ x / 65536 = omega arith in
    let p₃ : x / 65536 / 256 ≡ x / 16777216 % 256 = omega arith in
    ap (shifts 128) p₀
    ∙ apart 128 256 8 1 256 x refl (omega arith) (omega arith)
    ∙ ap (bit_xor (byte_out 0 (x % 256)))
    (apart 128 256 16 256 65536 (x / 256) refl (omega arith) (omega arith)
    ∙ ap (bit_xor (byte_out 1 (x / 256 % 256))) (ap (byte_out 2) p₂
    ∙ apart 128 256 24 65536 16777216 (x / 65536) refl (omega arith) (omega arith)
    ∙ ap (λ (y : ℕ). bit_xor (byte_out 2 (x / 65536 % 256)) (byte_out 3 y)) p₃))
    ∙ in_a_row (byte_out 0 (x % 256)) (byte_out 1 (x / 256 % 256)) (byte_out 2 (x / 65536 % 256)) (byte_out 3 (x / 16777216 % 256))
  where
    in_a_row : (a b c d : ℕ) → bit_xor a (bit_xor b (bit_xor c d)) ≡ bit_xor (bit_xor a b) (bit_xor c d)
    in_a_row a b c d = simp xor_assoc
