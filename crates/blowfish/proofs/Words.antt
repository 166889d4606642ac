-- Words stay words and blocks stay blocks, so the laws hold of blocks as numbers; the words of a key have 32 bits.
-- Assumes nothing.
use Rattle.std.proofs.Common.{◌≡◌, ℕ, zero, suc, ◌+◌, ◌-◌, ◌*◌, ◌/◌, ◌%◌, ◌^◌, ◌<◌, List, length, set, ap, ◌∙◌, ap₂, mod-lt, div-add-mod', arith, lit<}
use lib.Arith.{digits_div, digits_mod}
use lib.Bits.{xor_lt}
use Rattle.octets.specs.Numbers.{Below}
use Rattle.octets.proofs.Digits.{digits_below, set_below}
use Rattle.pi.specs.Pi.{pi_fraction, start_words}
use Rattle.blowfish.specs.declared.Block.{Block}
use Rattle.blowfish.specs.Cipher.{F, P, far_end, block, rounds, cipher, block_of, block_number, encipher_of, decipher_of}
use Rattle.blowfish.specs.Schedule.{key_word, keyed, Filling, filled, schedule}
use Rattle.blowfish.specs.BackAgain.{NumberBack, NumberForth, BlocksStayBlocks, KeysHaveWords}
use Rattle.blowfish.proofs.BackAgain.{decipher_after_encipher, encipher_after_decipher}

abbrev Word : ℕ → Type 0
Word x = x < 2 ^ 32

F-word : (w : List ℕ) (x : ℕ) → Word (F w x)
unfolding F
F-word w x = mod-lt _ (lit< tt)

module _ (f p : ℕ → ℕ) (words_f : (x : ℕ) → Word (f x)) (words_p : (i : ℕ) → Word (p i)) where
  rounds_words : (n : ℕ) (b : Block) → Word b.left → Word b.right → Word (rounds f p n b).left × Word (rounds f p n b).right
  unfolding rounds
  rounds_words zero b l r = (l, r)
  rounds_words (suc n) b l r =
      let before = rounds_words n b l r in
      (xor_lt 32 _ _ before.1 (words_f _), xor_lt 32 _ _ before.0 (words_p n))

  cipher_words : (b : Block) → Word b.left → Word b.right → Word (cipher f p b).left × Word (cipher f p b).right
  unfolding cipher
  cipher_words b l r =
      let rounded = rounds_words 16 b l r in
      (xor_lt 32 _ _ rounded.1 (words_p 17), xor_lt 32 _ _ rounded.0 (words_p 16))

-- a block's number is taken apart again
parts : (b : Block) → Word b.right → block_of (block_number b) ≡ b
parts b r = ap₂ block (digits_div b.left r) (digits_mod b.left r)

whole : (x : ℕ) → block_number (block_of x) ≡ x
whole x = div-add-mod' x (2 ^ 32)

left_word : (x : ℕ) → x < 2 ^ 64 → Word (x / 2 ^ 32)
left_word x h = omega arith

number_lt : (b : Block) → Word b.left → Word b.right → block_number b < 2 ^ 64
number_lt b l r = omega arith

module _ (w : List ℕ) (words : Below (2 ^ 32) w) (x : ℕ) (fits : x < 2 ^ 64) where
  enciphered : Word (cipher (F w) (P w) (block_of x)).left × Word (cipher (F w) (P w) (block_of x)).right
  enciphered = cipher_words (F w) (P w) (F-word w) words (block_of x) (left_word x fits) (mod-lt x (lit< tt))

  deciphered : Word (cipher (F w) (far_end w) (block_of x)).left × Word (cipher (F w) (far_end w) (block_of x)).right
  deciphered = cipher_words (F w) (far_end w) (F-word w) (λ i. words (17 - i)) (block_of x) (left_word x fits) (mod-lt x (lit< tt))

pub number_back : NumberBack
unfolding encipher_of decipher_of
number_back w words x fits =
    ap (λ (b : Block). block_number (cipher (F w) (far_end w) b)) (parts (cipher (F w) (P w) (block_of x)) (enciphered w words x fits).1)
    ∙ ap block_number (decipher_after_encipher w (block_of x))
    ∙ whole x

pub number_forth : NumberForth
unfolding encipher_of decipher_of
number_forth w words x fits =
    ap (λ (b : Block). block_number (cipher (F w) (P w) b)) (parts (cipher (F w) (far_end w) (block_of x)) (deciphered w words x fits).1)
    ∙ ap block_number (encipher_after_decipher w (block_of x))
    ∙ whole x

pub blocks_stay_blocks : BlocksStayBlocks
unfolding encipher_of decipher_of
blocks_stay_blocks w words x fits =
    let e = enciphered w words x fits in
    let d = deciphered w words x fits in
    (number_lt _ e.0 e.1, number_lt _ d.0 d.1)

module _ (key : List ℕ) (bytes : Below 256 key) where
  key_word_word : (i : ℕ) → Word (key_word key i)
  unfolding key_word
  key_word_word i =
      omega (arith, bytes (i % length key), bytes ((i + 1) % length key), bytes ((i + 2) % length key), bytes ((i + 3) % length key))

  keyed_words : (n : ℕ) (w : List ℕ) → Below (2 ^ 32) w → Below (2 ^ 32) (keyed key n w)
  unfolding keyed
  keyed_words zero w h = h
  keyed_words (suc n) w h =
      let before = keyed_words n w h in
      set_below (keyed key n w) n _ before (xor_lt 32 _ _ (before n) (key_word_word (4 * n)))

filled_words : (n : ℕ) (s : Filling) → Below (2 ^ 32) s.words → s.block < 2 ^ 64 → Below (2 ^ 32) (filled n s).words × ((filled n s).block < 2 ^ 64)
unfolding filled
filled_words zero s h fits = (h, fits)
filled_words (suc n) s h fits =
    let before = filled_words n s h fits in
    let x = encipher_of (filled n s).words (filled n s).block in
    let block : x < 2 ^ 64 = (blocks_stay_blocks (filled n s).words before.0 (filled n s).block before.1).0 in
    (set_below (set (filled n s).words (2 * n) (x / 2 ^ 32)) (2 * n + 1) _ (set_below (filled n s).words (2 * n) _ before.0 (left_word x block)) (mod-lt x (lit< tt)), block)

start_words_lem : Below (2 ^ 32) start_words
unfolding start_words
start_words_lem = digits_below (2 ^ 32) 1042 pi_fraction (lit< tt)

pub keys_have_words : KeysHaveWords
unfolding schedule
keys_have_words key bytes =
    (filled_words 521 (record { words = keyed key 18 start_words; block = 0 }) (keyed_words key bytes 18 start_words start_words_lem) (lit< tt)).0
