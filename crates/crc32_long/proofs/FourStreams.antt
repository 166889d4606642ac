-- Four streams that go on by themselves stand for what sixteen bytes more give.
-- Assumes nothing.
use mathlib.Core.Path.{◌≡◌, sym, ap, ◌∙◌}
use Prim.Native.Nat.{ℕ, ◌+◌}
use native.Mathlib.Omega.{arith}
use lib.Bits.{bit_xor, xor_zero_r}
use Rattle.octets.proofs.Xor.{xor_pairs}
use Rattle.crc32.specs.Crc32.{shifts}
use Rattle.crc32.proofs.Shifts.{shifts_xor, shifts_more}
use Rattle.crc32_long.specs.declared.Streams.{Streams}
use Rattle.crc32_long.specs.Streams.{four_in}

abbrev pub streams : ℕ → ℕ → ℕ → ℕ → Streams
streams x y z w = record { a = x; b = y; c = z; d = w }

-- one word more, of an exclusive or as of each by itself
word_xor : (s t x y : ℕ) → shifts 32 (bit_xor (bit_xor s t) (bit_xor x y)) ≡ bit_xor (shifts 32 (bit_xor s x)) (shifts 32 (bit_xor t y))
word_xor s t x y = ap (shifts 32) (xor_pairs s t x y) ∙ shifts_xor 32 (bit_xor s x) (bit_xor t y)

-- four words that are an exclusive or stand for that of what each four stand for
four_xor : (a b c d x y z w : ℕ) → four_in (streams (bit_xor a x) (bit_xor b y) (bit_xor c z) (bit_xor d w)) ≡ bit_xor (four_in (streams a b c d)) (four_in (streams x y z w))
unfolding four_in
four_xor a b c d x y z w =
    ap (λ (v : ℕ). shifts 32 (bit_xor (shifts 32 (bit_xor (shifts 32 (bit_xor v (bit_xor b y))) (bit_xor c z))) (bit_xor d w))) (shifts_xor 32 a x)
    ∙ ap (λ (v : ℕ). shifts 32 (bit_xor (shifts 32 (bit_xor v (bit_xor c z))) (bit_xor d w))) (word_xor (shifts 32 a) (shifts 32 x) b y)
    ∙ ap (λ (v : ℕ). shifts 32 (bit_xor v (bit_xor d w)))
    (word_xor (shifts 32 (bit_xor (shifts 32 a) b)) (shifts 32 (bit_xor (shifts 32 x) y)) c z)
    ∙ word_xor (shifts 32 (bit_xor (shifts 32 (bit_xor (shifts 32 a) b)) c)) (shifts 32 (bit_xor (shifts 32 (bit_xor (shifts 32 x) y)) z)) d w

-- bits go out in any order
either_first : (n m x : ℕ) → shifts m (shifts n x) ≡ shifts n (shifts m x)
either_first n m x =
    let e : n + m ≡ m + n = omega arith in
    shifts_more n m x ∙ ap (λ (k : ℕ). shifts k x) e ∙ sym (shifts_more m n x)

-- one word more, where 128 bits have gone out of both
word_out : (s x : ℕ) → shifts 32 (bit_xor (shifts 128 s) (shifts 128 x)) ≡ shifts 128 (shifts 32 (bit_xor s x))
word_out s x = ap (shifts 32) (sym (shifts_xor 128 s x)) ∙ either_first 128 32 (bit_xor s x)

-- 128 bits out of each of four words are 128 bits out of what they stand for
four_out : (a b c d : ℕ) → four_in (streams (shifts 128 a) (shifts 128 b) (shifts 128 c) (shifts 128 d)) ≡ shifts 128 (four_in (streams a b c d))
unfolding four_in
four_out a b c d =
    ap (λ (v : ℕ). shifts 32 (bit_xor (shifts 32 (bit_xor (shifts 32 (bit_xor v (shifts 128 b))) (shifts 128 c))) (shifts 128 d))) (either_first 128 32 a)
    ∙ ap (λ (v : ℕ). shifts 32 (bit_xor (shifts 32 (bit_xor v (shifts 128 c))) (shifts 128 d))) (word_out (shifts 32 a) b)
    ∙ ap (λ (v : ℕ). shifts 32 (bit_xor v (shifts 128 d))) (word_out (shifts 32 (bit_xor (shifts 32 a) b)) c)
    ∙ word_out (shifts 32 (bit_xor (shifts 32 (bit_xor (shifts 32 a) b)) c)) d

-- a word alone, and 96 bits after it
alone : (s : ℕ) → four_in (streams s 0 0 0) ≡ shifts 128 s
unfolding four_in
alone s =
    simp xor_zero_r (ap (λ (v : ℕ). shifts 32 (shifts 32 v)) (shifts_more 32 32 s) ∙ ap (shifts 32) (shifts_more 64 32 s) ∙ shifts_more 96 32 s)

-- four words that come in after a state
after : (s x y z w : ℕ) → four_in (streams (bit_xor s x) y z w) ≡ bit_xor (shifts 128 s) (four_in (streams x y z w))
after s x y z w = four_xor s 0 0 0 x y z w ∙ ap (λ (v : ℕ). bit_xor v (four_in (streams x y z w))) (alone s)

-- each stream by itself: its word goes out, and its next comes in
pub turn : (a b c d x y z w : ℕ)
    → four_in (streams (bit_xor (shifts 128 a) x) (bit_xor (shifts 128 b) y) (bit_xor (shifts 128 c) z) (bit_xor (shifts 128 d) w))
    ≡ four_in (streams (bit_xor (four_in (streams a b c d)) x) y z w)
turn a b c d x y z w =
    four_xor (shifts 128 a) (shifts 128 b) (shifts 128 c) (shifts 128 d) x y z w
    ∙ ap (λ (v : ℕ). bit_xor v (four_in (streams x y z w))) (four_out a b c d)
    ∙ sym (after (four_in (streams a b c d)) x y z w)
