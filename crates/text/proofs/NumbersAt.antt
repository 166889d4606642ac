-- The number of the characters at a place: when it is read, what it is, and how large.
-- Assumes nothing.
use Rattle.std.specs.Prelude.{None, Option, Some}
use Rattle.std.proofs.Common.{◌≡◌, ℕ, ◌^◌, ◌<◌, ◌≤◌, Bool, true, false, cond, ◌&&◌, leb, List, map, le-leb}
use borrow.Author.Tests.{lt-leb}
use Rattle.octets.specs.Numbers.{value}
use Rattle.octets.proofs.Every.{and_second, either}
use Rattle.octets.proofs.Places.{part_length}
use Rattle.text.specs.Characters.{is_hex, is_digit, hex_number, decimal_number}
use Rattle.text.specs.Texts.{part, all_at, hex_at, decimal_at}
use Rattle.text.proofs.Alphabets.{Alphabet, number_below}
use Rattle.text.proofs.Notations.{hex, decimal}
use Rattle.text.proofs.TextsAt.{all_within, all_there}

-- the number of the n characters from place at, of which at most `most` are read
unfoldable pub read_at : ℕ → ℕ → (ℕ → ℕ) → (ℕ → Bool) → ℕ → List ℕ → ℕ → Option ℕ
read_at most b value_of read n s at = cond (leb n most && all_at read n s at) (Some (value b (map value_of (part n s at)))) None

module _ {b : ℕ} {character value_of : ℕ → ℕ} {read written : ℕ → Bool} (alphabet : Alphabet b character value_of read written) where
  module _ (most n : ℕ) (s : List ℕ) (at : ℕ) where
    pub number_read : (x : ℕ) → read_at most b value_of read n s at ≡ Some x → (all_at read n s at ≡ true) × (x ≡ value b (map value_of (part n s at)))
    unfolding read_at
    number_read x made =
        either (leb n most && all_at read n s at)
        (λ good. (and_second (leb n most) (all_at read n s at) good, cc (rw good at made)))
        (λ bad. (cc (rw bad at made), cc (rw bad at made)))

    pub number-wrong : n ≤ most → read_at most b value_of read n s at ≡ None → all_at read n s at ≡ false
    unfolding read_at
    number-wrong few wrong =
        either (all_at read n s at) (λ good. cc (rw (le-leb n most few, good) at wrong)) (λ bad. bad)

    pub number-right : n ≤ most → all_at read n s at ≡ true → read_at most b value_of read n s at ≡ Some (value b (map value_of (part n s at)))
    unfolding read_at
    number-right few all = rw (le-leb n most few, all)

    pub number_bound : all_at read n s at ≡ true → value b (map value_of (part n s at)) < b ^ n
    number_bound all =
        rw (part_length n s at (all_within read n s at all)) at (number_below alphabet (part n s at) (all_there read n s at all))

    pub number-refused : n ≤ most → all_at read n s at ≡ false → read_at most b value_of read n s at ≡ None
    unfolding read_at
    number-refused few bad = rw (le-leb n most few, bad)

    pub number-too-long : most < n → read_at most b value_of read n s at ≡ None
    unfolding read_at
    number-too-long many = rw (lt-leb n most many)

module _ (n : ℕ) (s : List ℕ) (at : ℕ) where
  pub hex_number_lem : (x : ℕ) → hex_at n s at ≡ Some x → (all_at is_hex n s at ≡ true) × (x ≡ hex_number (part n s at))
  unfolding hex_at read_at
  hex_number_lem = number_read hex 16 n s at

  pub hex_wrong : n ≤ 16 → hex_at n s at ≡ None → all_at is_hex n s at ≡ false
  unfolding hex_at read_at
  hex_wrong = number-wrong hex 16 n s at

  pub hex_bound : all_at is_hex n s at ≡ true → hex_number (part n s at) < 16 ^ n
  hex_bound = number_bound hex 16 n s at

  pub decimal_number_lem : (x : ℕ) → decimal_at n s at ≡ Some x → (all_at is_digit n s at ≡ true) × (x ≡ decimal_number (part n s at))
  unfolding decimal_at read_at
  decimal_number_lem = number_read decimal 19 n s at

  pub decimal_wrong : n ≤ 19 → decimal_at n s at ≡ None → all_at is_digit n s at ≡ false
  unfolding decimal_at read_at
  decimal_wrong = number-wrong decimal 19 n s at

  pub decimal_right : n ≤ 19 → all_at is_digit n s at ≡ true → decimal_at n s at ≡ Some (decimal_number (part n s at))
  unfolding decimal_at read_at
  decimal_right = number-right decimal 19 n s at

  pub decimal_bound : all_at is_digit n s at ≡ true → decimal_number (part n s at) < 10 ^ n
  decimal_bound = number_bound decimal 19 n s at
