-- For inner contracts alone: four blocks side by side, and blocks put one after the other.
use Rattle.std.specs.Prelude.{List, [], ◌∷◌, ◌++◌, ℕ, zero, suc, ◌+◌, ◌*◌, get_or, take, drop}
use Rattle.octets.specs.Numbers.{bytes_of}
use Rattle.octets.specs.Places.{number_at}
use Rattle.blowfish.specs.Cipher.{F, cipher, block_of, block_number}
use Rattle.blowfish.specs.declared.Block.{Block}
use Rattle.blocks.specs.declared.Four.{Four}

-- g done to each of four blocks
abbrev pub each : (Block → Block) → Four → Four
each g b = record { a = g b.a; b = g b.b; c = g b.c; d = g b.d }

-- the numbers that g makes of each of four blocks
abbrev pub listed : (Block → ℕ) → Four → List ℕ
listed g b = g b.a ∷ g b.b ∷ g b.c ∷ g b.d ∷ []

-- the first four blocks of s
abbrev pub first_four : List ℕ → Four
first_four s = record {
  a = block_of (number_at 8 s 0);
  b = block_of (number_at 8 s 8);
  c = block_of (number_at 8 s 16);
  d = block_of (number_at 8 s 24);
}

-- a block as a number, with the words w and P in the order of p
abbrev pub cipher_by : List ℕ → (ℕ → ℕ) → ℕ → ℕ
cipher_by w p x = block_number (cipher (F w) p (block_of x))

-- the eight bytes of x put at a place
unfoldable pub block_put : ℕ → ℕ → List ℕ → List ℕ
block_put at x out = take at out ++ (bytes_of 8 x ++ drop (at + 8) out)

-- the first n of the numbers xs put so, one after the other
unfoldable pub all_put : List ℕ → ℕ → ℕ → List ℕ → List ℕ
all_put xs at zero out = out
all_put xs at (suc n) out = block_put (at + 8 * n) (get_or xs n 0) (all_put xs at n out)
