-- Hex, written in upper case and read in either, and decimal are alphabets. Assumes nothing.
use Rattle.std.proofs.Common.{◌≡◌, ℕ, ◌+◌, ◌-◌, ◌<◌, ◌≤◌, true, cond, eqb, ltb, leb, arith, eqb→eq, le-ltb, lt-ltb, leb-true}
use borrow.Author.Tests.{lt-leb}
use lib.Bits.{bit_or}
use Rattle.octets.proofs.Every.{and_first, and_second, either}
use Rattle.octets.proofs.Tables.{T_true, computed}
use Rattle.text.specs.Characters.{between, raised, is_digit, is_upper_hex, is_hex, is_name_character, upper_hex_value, hex_value, hex_character, digit_value, digit_character}
use Rattle.text.proofs.Alphabets.{Alphabet, read_after}

pub between_low : (low high c : ℕ) → between low high c ≡ true → low ≤ c
between_low low high c e = leb-true low c (and_first (leb low c) (leb c high) e)

pub between_high : (low high c : ℕ) → between low high c ≡ true → c ≤ high
between_high low high c e = leb-true c high (and_second (leb low c) (leb c high) e)

pub digit_low : (c : ℕ) → is_digit c ≡ true → 48 ≤ c
unfolding is_digit
digit_low c e = between_low 48 57 c e

pub digit_high : (c : ℕ) → is_digit c ≡ true → c ≤ 57
unfolding is_digit
digit_high c e = between_high 48 57 c e

upper_exactly : (c : ℕ) → is_upper_hex c ≡ ltb (upper_hex_value c) 16
unfolding is_upper_hex upper_hex_value
upper_exactly c =
    either (is_digit c)
    (λ d. rw (d, lt-ltb (c - 48) 16 (omega (arith, digit_high c d))))
    (λ d. either (between 65 70 c)
    (λ h. rw (d, h, lt-ltb (c - 65 + 10) 16 (omega (arith, between_high 65 70 c h))))
    (λ h. rw (d, h)))

upper_back : (c : ℕ) → is_upper_hex c ≡ true → hex_character (upper_hex_value c) ≡ c
unfolding is_upper_hex upper_hex_value hex_character
upper_back c e =
    either (is_digit c)
    (λ d. rw (d, lt-ltb (c - 48) 10 (omega (arith, digit_high c d))) (omega (arith, digit_low c d)))
    (λ d. either (between 65 70 c)
    (λ h. rw (d, h, le-ltb (c - 65 + 10) 10 (omega (arith, between_low 65 70 c h))) (omega (arith, between_low 65 70 c h)))
    (λ h. cc (rw (d, h) at e)))

-- hex in capitals alone
pub upper : Alphabet 16 hex_character upper_hex_value is_upper_hex is_upper_hex
unfolding is_digit is_upper_hex upper_hex_value hex_character
upper =
    record {
      positive = omega arith;
      exactly = upper_exactly;
      value_back = λ v fits. eqb→eq _ v (computed 16 (λ (k : ℕ). eqb (upper_hex_value (hex_character k)) k) tt v fits);
      character_written = λ v fits. T_true _ (computed 16 (λ (k : ℕ). is_upper_hex (hex_character k)) tt v fits);
      character_back = upper_back;
      written_read = λ c e. e;
    }

-- what stands before a is not raised, and neither are digits and capitals
raised_low : (c : ℕ) → c < 97 → raised c ≡ c
unfolding raised
raised_low c low = rw (lt-leb 97 c low)

pub digit_stays : (c : ℕ) → is_digit c ≡ true → raised c ≡ c
digit_stays c digit = raised_low c (omega (arith, digit_high c digit))

pub name_stays : (c : ℕ) → is_name_character c ≡ true → raised c ≡ c
unfolding is_name_character
name_stays c is =
    either (is_digit c) (digit_stays c) (λ other. raised_low c (omega (arith, between_high 65 90 c (rw other at is))))

pub upper_stays : (c : ℕ) → is_upper_hex c ≡ true → raised c ≡ c
unfolding is_upper_hex
upper_stays c is =
    either (is_digit c) (digit_stays c) (λ other. raised_low c (omega (arith, between_high 65 70 c (rw other at is))))

-- hex in either case is read after raising
pub hex : Alphabet 16 hex_character hex_value is_hex is_upper_hex
unfolding is_hex hex_value
hex = read_after upper raised upper_stays

-- the value of a byte by two tests: whether it is a digit, and whether it is a letter with the bit set in which small letters differ from capitals
abbrev pub value_by_tests : ℕ → ℕ
value_by_tests c = cond (is_digit c) (c - 48) (cond (between 97 102 (bit_or c 32)) (bit_or c 32 - 97 + 10) 16)

pub hex_by_tests : (c : ℕ) → c < 256 → hex_value c ≡ value_by_tests c
unfolding is_digit raised upper_hex_value hex_value
hex_by_tests c byte = eqb→eq _ _ (computed 256 (λ (k : ℕ). eqb (hex_value k) (value_by_tests k)) tt c byte)

digit_exactly : (c : ℕ) → is_digit c ≡ ltb (digit_value c) 10
unfolding digit_value
digit_exactly c =
    either (is_digit c)
    (λ d. rw (d, lt-ltb (c - 48) 10 (omega (arith, digit_high c d))))
    (λ d. rw d)

digit_back : (c : ℕ) → is_digit c ≡ true → digit_character (digit_value c) ≡ c
unfolding digit_value digit_character
digit_back c d = rw d (omega (arith, digit_low c d))

pub decimal : Alphabet 10 digit_character digit_value is_digit is_digit
unfolding is_digit digit_value digit_character
decimal =
    record {
      positive = omega arith;
      exactly = digit_exactly;
      value_back = λ v fits. eqb→eq _ v (computed 10 (λ (k : ℕ). eqb (digit_value (digit_character k)) k) tt v fits);
      character_written = λ v fits. T_true _ (computed 10 (λ (k : ℕ). is_digit (digit_character k)) tt v fits);
      character_back = digit_back;
      written_read = λ c e. e;
    }
