-- The starting words, worked out in whole numbers by Machin's formula. That the code's tables equal them is proved; that they are the first bits of
-- pi's fraction rests on that formula, with arctan's series, and on the rounding, which is counted below.
use Rattle.std.specs.Prelude.{List, ℕ, zero, suc, ◌+◌, ◌-◌, ◌*◌, ◌/◌, ◌%◌, ◌^◌, ◌≤◌}
use Rattle.octets.specs.Numbers.{digits}

-- t / n - t / (q * (n + 2)) + t / (q * q * (n + 4)) - .., as many pairs as given: with t = m / x, q = x * x and n = 1 it is m * arctan (1 / x), rounded
unfoldable pub series : ℕ → ℕ → ℕ → ℕ → ℕ
series zero q t n = 0
series (suc pairs) q t n = (t / n - t / q / (n + 2)) + series pairs q (t / q / q) (n + 4)

-- m * pi, rounded, by Machin's formula, pi = 16 arctan (1/5) - 4 arctan (1/239); for m up to 2 ^ 33408 the pairs left out are 0
unfoldable pub pi_times : ℕ → ℕ
pi_times m = 16 * series 3600 25 (m / 5) 1 - 4 * series 1060 57121 (m / 239) 1

-- the first 33,344 bits of pi's fraction; 64 bits more are worked out and cut off, which is where the rounding falls
unfoldable pub pi_fraction : ℕ
pi_fraction = pi_times (2 ^ 33408) / 2 ^ 64 % 2 ^ 33344

-- as 1,042 words of 32 bits: P1 to P18, then S1, S2, S3 and S4 of 256 each
unfoldable pub start_words : List ℕ
start_words = digits (2 ^ 32) 1042 pi_fraction

-- the 64 bits that are cut off
unfoldable pub guard_bits : ℕ
guard_bits = pi_times (2 ^ 33408) % 2 ^ 64

-- They lie far from both ends, farther than the rounding reaches, so it changes no bit above them. A term is its real value rounded down, since dividing
-- step by step rounds as dividing once does; n pairs add n terms and subtract n, so a series is less than n off, and the real terms that come after make
-- less than 1. All in all that is less than 16 * 3,601 + 4 * 1,061 = 61,860, which is below 2 ^ 16.
abbrev pub GuardBitsFar : Type 0
GuardBitsFar = (2 ^ 62 ≤ guard_bits) × (guard_bits + 2 ^ 62 ≤ 2 ^ 64)
