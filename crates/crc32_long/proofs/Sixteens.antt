-- Sixteen bytes that come in one after the other come in as four words.
-- Assumes nothing.
use Rattle.std.proofs.Common.{◌≡◌, ℕ, zero, suc, ◌+◌, ◌-◌, ◌*◌, ◌/◌, ◌%◌, ◌^◌, ◌<◌, ◌≤◌, List, [], ◌∷◌, ◌++◌, length, get_or, take, drop, sym, ap, ap₂, ◌∙◌, arith}
use Rattle.std.specs.Int.{w32, from_le_bytes, to_le_bytes}
use Rattle.std.specs.List.{fold, flat_map}
use Rattle.std.specs.Simd.{first_chunks}
use Rattle.std.proofs.lemmas.List.{length-take-le, length-drop, nil_from_length}
use lib.Bits.{bit_xor}
use lib.Seq.{take_all}
use Rattle.octets.specs.Numbers.{Below}
use Rattle.octets.proofs.Digits.{take_below, drop_below}
use Rattle.crc32.specs.Crc32.{shifts, feed_all}
use Rattle.crc32.proofs.Feeding.{four, word_fed, chunks_fed}
use Rattle.crc32_long.specs.declared.Streams.{Streams}
use Rattle.crc32_long.specs.Streams.{word_of, four_in}
use Rattle.crc32_long.proofs.FourStreams.{streams, turn}

-- a word comes in by its bytes
word_bytes : (c x : ℕ) (rest : List ℕ) → x < 2 ^ 32 → feed_all c (to_le_bytes w32 x ++ rest) ≡ feed_all (shifts 32 (bit_xor c x)) rest
unfolding feed_all
word_bytes c x rest h =
    let whole : x % 256 + x / 256 % 256 * 256 + x / 65536 % 256 * 65536 + x / 16777216 % 256 * 16777216 ≡ x = omega arith in
    ap (λ (v : ℕ). feed_all v rest)
    (four c (x % 256) (x / 256 % 256) (x / 65536 % 256) (x / 16777216 % 256) (omega arith) (omega arith) (omega arith)
    ∙ ap (λ (w : ℕ). shifts 32 (bit_xor c w)) whole)

-- four words come in by their bytes, where nothing came in before
pub four_bytes : (x y z w : ℕ) → x < 2 ^ 32 → y < 2 ^ 32 → z < 2 ^ 32 → w < 2 ^ 32
    → feed_all 0 (flat_map (λ b. b) (to_le_bytes w32 x ∷ to_le_bytes w32 y ∷ to_le_bytes w32 z ∷ to_le_bytes w32 w ∷ [])) ≡ four_in (streams x y z w)
unfolding four_in feed_all
four_bytes x y z w hx hy hz hw =
    word_bytes 0 x (to_le_bytes w32 y ++ (to_le_bytes w32 z ++ (to_le_bytes w32 w ++ []))) hx
    ∙ word_bytes (shifts 32 x) y (to_le_bytes w32 z ++ (to_le_bytes w32 w ++ [])) hy
    ∙ word_bytes (shifts 32 (bit_xor (shifts 32 x) y)) z (to_le_bytes w32 w ++ []) hz
    ∙ word_bytes (shifts 32 (bit_xor (shifts 32 (bit_xor (shifts 32 x) y)) z)) w [] hw

-- the word that s begins with comes in
word_next : (v : ℕ) (s : List ℕ) → 4 ≤ length s → Below 256 s → feed_all v (take 4 s) ≡ shifts 32 (bit_xor v (from_le_bytes w32 (take 4 s)))
word_next v s long bytes = word_fed v (take 4 s) (length-take-le 4 s long) (take_below 4 s bytes)

-- sixteen bytes come in as their words, the state in the first of them
pub sixteen_first : (c : ℕ) (s : List ℕ) → length s ≡ 16 → Below 256 s
    → four_in (streams (bit_xor c (word_of s 0)) (word_of s 1) (word_of s 2) (word_of s 3)) ≡ feed_all c s
unfolding four_in feed_all
sixteen_first c s long bytes =
    let s₁ = drop 4 s in
    let s₂ = drop 4 s₁ in
    let s₃ = drop 4 s₂ in
    let l₁ : length s₁ ≡ 12 = length-drop 4 s ∙ omega arith in
    let l₂ : length s₂ ≡ 8 = length-drop 4 s₁ ∙ omega arith in
    let l₃ : length s₃ ≡ 4 = length-drop 4 s₂ ∙ omega arith in
    let b₁ = drop_below 4 s bytes in
    let b₂ = drop_below 4 s₁ b₁ in
    let b₃ = drop_below 4 s₂ b₂ in
    let none : drop 16 s ≡ [] = nil_from_length (drop 16 s) (length-drop 16 s ∙ omega arith) in
    let c₁ = shifts 32 (bit_xor c (word_of s 0)) in
    let c₂ = shifts 32 (bit_xor c₁ (word_of s 1)) in
    let c₃ = shifts 32 (bit_xor c₂ (word_of s 2)) in
    sym
    (sym (chunks_fed 4 4 c s)
    ∙ ap (feed_all (fold feed_all c (first_chunks 4 4 s))) none
    ∙ ap (λ (v : ℕ). feed_all (feed_all (feed_all v (take 4 s₁)) (take 4 s₂)) (take 4 s₃)) (word_next c s (omega arith) bytes)
    ∙ ap (λ (v : ℕ). feed_all (feed_all v (take 4 s₂)) (take 4 s₃)) (word_next c₁ s₁ (omega arith) b₁)
    ∙ ap (λ (v : ℕ). feed_all v (take 4 s₃)) (word_next c₂ s₂ (omega arith) b₂)
    ∙ word_next c₃ s₃ (omega arith) b₃)

-- where four streams stand, each goes on by itself
pub sixteen_more : (x : Streams) (s : List ℕ) → length s ≡ 16 → Below 256 s
    → four_in (streams (bit_xor (shifts 128 x.a) (word_of s 0)) (bit_xor (shifts 128 x.b) (word_of s 1)) (bit_xor (shifts 128 x.c) (word_of s 2)) (bit_xor (shifts 128 x.d) (word_of s 3)))
    ≡ feed_all (four_in x) s
sixteen_more x s long bytes =
    turn x.a x.b x.c x.d (word_of s 0) (word_of s 1) (word_of s 2) (word_of s 3) ∙ sixteen_first (four_in x) s long bytes

-- the first sixteen, the others, and what is left
pub long_fed : (n c : ℕ) (s : List ℕ) → 1 ≤ n → {sixteens : List (List ℕ)} {rest : List ℕ} {first last : ℕ}
    → sixteens ≡ first_chunks 16 n s → rest ≡ drop (n * 16) s
    → first ≡ feed_all c (get_or sixteens 0 []) → last ≡ fold feed_all first (take (length sixteens - 1) (drop 1 sixteens))
    → feed_all last rest ≡ feed_all c s
long_fed zero c s h front back begun onward = absurd (omega arith)
long_fed (suc n) c s h {sixteens} {rest} {first} {last} front back begun onward =
    let others : take (length sixteens - 1) (drop 1 sixteens) ≡ drop 1 sixteens = take_all (length sixteens - 1) (drop 1 sixteens) (omega (arith, length-drop 1 sixteens)) in
    let all : last ≡ fold feed_all c (first_chunks 16 (suc n) s) =
    onward
    ∙ ap₂ (fold feed_all) begun others
    ∙ ap (λ (l : List (List ℕ)). fold feed_all (feed_all c (get_or l 0 [])) (drop 1 l)) front in
    ap₂ feed_all all back ∙ chunks_fed 16 (suc n) c s
