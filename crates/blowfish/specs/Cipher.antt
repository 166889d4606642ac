-- Blowfish on one block. The words of a key stand in one list: P1 to P18, then S1, S2, S3 and S4 of 256 each.
use Rattle.std.specs.Prelude.{◌≡◌, ℕ, zero, suc, ◌+◌, ◌-◌, ◌*◌, ◌/◌, ◌%◌, ◌^◌, ◌<◌, List, bit_xor, slice_index}
use Rattle.blowfish.specs.declared.Block.{Block}

-- P1 to P18: the word i, counted from 0
abbrev pub P : List ℕ → ℕ → ℕ
P w i = slice_index w i

-- S1[a]
abbrev pub S1 : List ℕ → ℕ → ℕ
S1 w a = slice_index w (18 + a)

-- S2[b]
abbrev pub S2 : List ℕ → ℕ → ℕ
S2 w b = slice_index w (274 + b)

-- S3[c]
abbrev pub S3 : List ℕ → ℕ → ℕ
S3 w c = slice_index w (530 + c)

-- S4[d]
abbrev pub S4 : List ℕ → ℕ → ℕ
S4 w d = slice_index w (786 + d)

-- adds S1[a] and S2[b], combines with S3[c], adds S4[d]; a, b, c, d are the bytes of x from the top
unfoldable pub F : List ℕ → ℕ → ℕ
F w x =
    (bit_xor ((S1 w (x / 2 ^ 24 % 256) + S2 w (x / 2 ^ 16 % 256)) % 2 ^ 32) (S3 w (x / 2 ^ 8 % 256)) + S4 w (x % 256)) % 2 ^ 32

-- a block: the words L and R, in the fields left and right
abbrev pub block : ℕ → ℕ → Block
block l r = record { left = l; right = r }

-- L and R exchanged
abbrev pub exchange : Block → Block
exchange b = block b.right b.left

-- L xor p
abbrev pub left_xor : ℕ → Block → Block
left_xor p b = block (bit_xor b.left p) b.right

-- R xor p
abbrev pub right_xor : ℕ → Block → Block
right_xor p b = block b.left (bit_xor b.right p)

-- R xor f(L)
abbrev pub right_xor_of : (ℕ → ℕ) → Block → Block
right_xor_of f b = right_xor (f b.left) b

-- L xor p, then R xor f(L), then exchange L and R
abbrev pub round : (ℕ → ℕ) → ℕ → Block → Block
round f p b = exchange (right_xor_of f (left_xor p b))

-- n rounds, with the words p 0, p 1, ..
unfoldable pub rounds : (ℕ → ℕ) → (ℕ → ℕ) → ℕ → Block → Block
rounds f p zero b = b
rounds f p (suc n) b = round f (p n) (rounds f p n b)

-- undo the last exchange, then R xor p17, then L xor p18
abbrev pub finish : ℕ → ℕ → Block → Block
finish p17 p18 b = left_xor p18 (right_xor p17 (exchange b))

-- sixteen rounds, and what follows them
unfoldable pub cipher : (ℕ → ℕ) → (ℕ → ℕ) → Block → Block
cipher f p b = finish (p 16) (p 17) (rounds f p 16 b)

-- what may be given for each of the eighteen words of P is that of p
abbrev pub GivesWords : (ℕ → ℕ → Type 0) → (ℕ → ℕ) → Type 0
GivesWords gives p = (i w : ℕ) → i < 18 → gives i w → w ≡ p i

-- P from the far end
abbrev pub far_end : List ℕ → ℕ → ℕ
far_end w i = P w (17 - i)

-- a block of eight bytes, read big-endian
abbrev pub block_of : ℕ → Block
block_of x = block (x / 2 ^ 32) (x % 2 ^ 32)

-- its eight bytes as a number again
abbrev pub block_number : Block → ℕ
block_number b = b.left * 2 ^ 32 + b.right

-- a block enciphered
unfoldable pub encipher_of : List ℕ → ℕ → ℕ
encipher_of w x = block_number (cipher (F w) (P w) (block_of x))

-- and deciphered
unfoldable pub decipher_of : List ℕ → ℕ → ℕ
decipher_of w x = block_number (cipher (F w) (far_end w) (block_of x))
