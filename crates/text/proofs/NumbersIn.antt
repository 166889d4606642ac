-- The number of a text of digits, in either base, as it is read one by one. Assumes nothing.
use Rattle.std.specs.Prelude.{None, Option, Some}
use Rattle.std.proofs.Common.{◌≡◌, ℕ, suc, ◌+◌, ◌*◌, ◌^◌, ◌<◌, ◌≤◌, Bool, true, cond, ltb, List, ◌∷◌, map, length, get_or, drop, slice_range, ◌-◌, refl, sym, ap, ◌∙◌, le_trans, mul_assoc, add-mul, pow-suc, add-one, arith, le-ltb, lt-ltb, le-leb, drop-cons, drop_of_length-le}
use native.Mathlib.Nat.{pow-le-pow_right, pow-zero, pow-succ'}
use lib.Arith.{digits_lt}
use lib.ListN.{length-map}
use Rattle.octets.specs.Numbers.{value}
use Rattle.octets.specs.Every.{all_of}
use Rattle.text.specs.Characters.{is_upper_hex, is_digit}
use Rattle.text.specs.Bases.{base_of, most_of, is_in, value_in, character_in, number_in, number_at}
use Rattle.text.specs.declared.digits.Base.{Base}
use Rattle.text.specs.declared.digits.Base.TheVariants.{Hex, Decimal}
use Rattle.text.proofs.Alphabets.{Alphabet}
use Rattle.text.proofs.Notations.{hex, decimal}
use Rattle.text.proofs.TextsAt.{all_inside}

-- the digits that are written
abbrev pub written_in : Base → ℕ → Bool
written_in Hex = is_upper_hex
written_in Decimal = is_digit

-- a base's digits are an alphabet
pub of_base : (base : Base) → Alphabet (base_of base) (character_in base) (value_in base) (is_in base) (written_in base)
of_base Hex = hex
of_base Decimal = decimal

-- the most digits that are read make a number of 64 bits
fits_64 : (base : Base) (x : ℕ) → x < base_of base ^ most_of base → x < 2 ^ 64
fits_64 Hex x low = low
fits_64 Decimal x low = omega (arith, low)

digit_more : (b x v m w : ℕ) → x * b ^ suc m + (v * b ^ m + w) ≡ (x * b + v) * b ^ m + w
digit_more b x v m w = rw (pow-succ', add-mul, mul_assoc) (omega arith)

module _ (base : Base) where
  -- the number of the characters l that follow those whose number is x
  unfoldable pub read_on : ℕ → List ℕ → Option ℕ
  read_on x l = cond (all_of (is_in base) l) (Some (x * base_of base ^ length l + value (base_of base) (map (value_in base) l))) None

  one_more : (x c : ℕ) (l : List ℕ) → is_in base c ≡ true → read_on x (c ∷ l) ≡ read_on (x * base_of base + value_in base c) l
  unfolding read_on all_of value
  one_more x c l good =
      let sum : x * base_of base ^ length (c ∷ l) + value (base_of base) (map (value_in base) (c ∷ l))
      ≡ (x * base_of base + value_in base c) * base_of base ^ length l + value (base_of base) (map (value_in base) l) =
      ap (λ (k : ℕ). x * base_of base ^ suc (length l) + (value_in base c * base_of base ^ k + value (base_of base) (map (value_in base) l))) (length-map l (value_in base))
      ∙ digit_more (base_of base) x (value_in base c) (length l) (value (base_of base) (map (value_in base) l)) in
      rw good (ap (λ (y : ℕ). cond (all_of (is_in base) l) (Some y) None) sum)

  -- after i characters of a text, whose number is x
  pub record ReadOf (s : List ℕ) (i x : ℕ) : Type 0 where
    pub few : length s ≤ most_of base
    pub low : x < base_of base ^ i
    pub same : number_in base s ≡ read_on x (drop i s)

  pub read_start : {s : List ℕ} → length s ≤ most_of base → ReadOf s 0 0
  unfolding number_in read_on
  read_start {s} few =
      let sum : value (base_of base) (map (value_in base) s) ≡ 0 * base_of base ^ length s + value (base_of base) (map (value_in base) s) = omega arith in
      record {
        few = few;
        low = rw pow-zero (omega arith);
        same = ap (λ (y : ℕ). cond (all_of (is_in base) s) (Some y) None) sum;
      }

  module _ {s : List ℕ} {i x : ℕ} (so_far : ReadOf s i x) where
    pub read_end : length s ≤ i → number_in base s ≡ Some x
    unfolding read_on all_of value
    read_end done =
        let all : x * base_of base ^ 0 + 0 ≡ x = rw pow-zero (omega arith) in
        so_far.same ∙ ap (read_on x) (drop_of_length-le s done) ∙ ap Some all

    -- the value v of the next character
    module _ {v b : ℕ} (more : i < length s) (is : v ≡ value_in base (get_or s i 0)) (base_is : b ≡ base_of base) where
      first : number_in base s ≡ read_on x (get_or s i 0 ∷ drop (suc i) s)
      first = so_far.same ∙ ap (read_on x) (drop-cons s i 0 more)

      passes : is_in base (get_or s i 0) ≡ ltb v b
      passes = (of_base base).exactly (get_or s i 0) ∙ ap (λ (y : ℕ). ltb y (base_of base)) (sym is) ∙ ap (ltb v) (sym base_is)

      pub read_wrong : b ≤ v → number_in base s ≡ None
      unfolding read_on all_of
      read_wrong bad = rw (passes ∙ le-ltb v b bad) at first

      module _ (good : v < b) where
        low_next : x * b + v < base_of base ^ (i + 1)
        low_next = rw (add-one, pow-suc, base_is) (digits_lt so_far.low (rw base_is at good))

        pub read_next : ReadOf s (i + 1) (x * b + v)
        read_next =
            record {
              few = so_far.few;
              low = low_next;
              same =
                  first
                  ∙ one_more x (get_or s i 0) (drop (suc i) s) (passes ∙ lt-ltb v b good)
                  ∙ ap (λ (y : ℕ). read_on (x * base_of base + y) (drop (suc i) s)) (sym is)
                  ∙ ap (λ (y : ℕ). read_on (x * y + v) (drop (suc i) s)) (sym base_is)
                  ∙ ap (λ (k : ℕ). read_on (x * b + v) (drop k s)) (sym (add-one i));
            }

        -- what is read is a number of 64 bits
        pub read_fits : x * b + v < 2 ^ 64
        read_fits =
            fits_64 base _ (le_trans low_next (pow-le-pow_right (of_base base).positive (omega (arith, more, so_far.few))))

-- the number of a part is that of the digits at its place
pub read_part : (base : Base) (n : ℕ) (s : List ℕ) (at : ℕ) → n ≤ most_of base → at + n ≤ length s
    → number_in base (slice_range s at (at + n)) ≡ number_at base n s at
unfolding number_in number_at
read_part base n s at few within =
    let count : at + n - at ≡ n = omega arith in
    rw (count, le-leb n (most_of base) few, all_inside (is_in base) n s at within) refl
