-- The pairs of digits of a date, one in every second byte of a number.
use Rattle.std.specs.Prelude.{ℕ, ◌/◌, ◌%◌, Bool, ◌&&◌}
use Rattle.text.specs.Characters.{between}

-- a century from 19 to 29, a month, and a day that every month has
unfoldable pub is_early : ℕ → Bool
is_early pairs = between 19 29 (pairs / 281474976710656 % 256) && between 1 12 (pairs / 65536 % 256) && between 1 28 (pairs % 256)
