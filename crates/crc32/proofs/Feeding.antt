-- Four bytes that come in one after the other come in as a word, and a text comes in chunk by chunk.
-- Assumes nothing.
use Rattle.std.proofs.Common.{◌≡◌, ℕ, zero, suc, ◌+◌, ◌*◌, ◌^◌, ◌<◌, List, [], ◌∷◌, ◌++◌, length, take, drop, take-append-drop, refl, sym, ap, ◌∙◌, arith}
use Rattle.std.specs.Int.{w32, from_le_bytes}
use Rattle.std.specs.List.{fold}
use Rattle.std.specs.Simd.{first_chunks}
use lib.Bits.{bit_xor}
use native.Mathlib.Nat.{zero-mul}
use lib.Seq.{drop-drop}
use Rattle.octets.specs.Numbers.{Below}
use Rattle.crc32.specs.Crc32.{shifts, feed, feed_all}
use Rattle.crc32.proofs.Shifts.{feed_above}

-- four bytes come in as their word
pub four : (c a b d e : ℕ) → a < 256 → b < 256 → d < 256
    → feed (feed (feed (feed c a) b) d) e ≡ shifts 32 (bit_xor c (a + b * 256 + d * 65536 + e * 16777216))
unfolding feed
four c a b d e ha hb hd =
    ap (λ (x : ℕ). feed (feed x d) e) (feed_above 8 c a b ha)
    ∙ ap (λ (x : ℕ). feed x e) (feed_above 16 c (a + b * 2 ^ 8) d (omega arith))
    ∙ feed_above 24 c (a + b * 2 ^ 8 + d * 2 ^ 16) e (omega arith)

pub word_fed : (c : ℕ) (w : List ℕ) → length w ≡ 4 → Below 256 w → feed_all c w ≡ shifts 32 (bit_xor c (from_le_bytes w32 w))
unfolding feed_all
word_fed c [] e h = absurd (omega arith)
word_fed c (a ∷ []) e h = absurd (omega arith)
word_fed c (a ∷ b ∷ []) e h = absurd (omega arith)
word_fed c (a ∷ b ∷ d ∷ []) e h = absurd (omega arith)
word_fed c (a ∷ b ∷ d ∷ f ∷ []) e h = four c a b d f (h 0) (h 1) (h 2)
word_fed c (a ∷ b ∷ d ∷ f ∷ g ∷ w) e h = absurd (omega arith)

-- what comes in piece by piece comes in as at once
pub fed_more : (c : ℕ) (s t : List ℕ) → feed_all c (s ++ t) ≡ feed_all (feed_all c s) t
unfolding feed_all
fed_more c [] t = refl
fed_more c (b ∷ s) t = fed_more (feed c b) s t

-- n chunks of k bytes, and then what is left
pub chunks_fed : (k n c : ℕ) (s : List ℕ) → feed_all (fold feed_all c (first_chunks k n s)) (drop (n * k) s) ≡ feed_all c s
chunks_fed k zero c s = ap (λ (m : ℕ). feed_all c (drop m s)) (zero-mul k)
chunks_fed k (suc n) c s =
    let e : k + n * k ≡ suc n * k = omega arith in
    ap (feed_all (fold feed_all (feed_all c (take k s)) (first_chunks k n (drop k s)))) (sym (drop-drop (n * k) k s ∙ ap (λ (m : ℕ). drop m s) e))
    ∙ chunks_fed k n (feed_all c (take k s)) (drop k s)
    ∙ sym (fed_more c (take k s) (drop k s))
    ∙ ap (feed_all c) (take-append-drop k s)
